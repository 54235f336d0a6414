-- Two diagrams, below their first test.
use Rattle.std.proofs.Common.{[], ◌∷◌, ◌<◌, sym, subst, arith, length, true, false}
use Rattle.std.proofs.lemmas.Result.{IfOk-weaker}
use Rattle.snap_diagrams.specs.Diagrams.{diagram}
use Rattle.snap_diagrams.specs.Picks.{sizes}
use Rattle.snap_diagrams.proofs.Picking.{falls_both, side_argument}
use Rattle.snap_diagrams.proofs.Shared.{kept, argument_kept, new_leaf}
use Rattle.snap_diagrams.proofs.Remembering.{remembers_more}
use Rattle.snap_compose.specs.Joined.{IsStart, IsJoined}
use Rattle.snap_compose.specs.JoinMemoed.{CombinedFor}
use Rattle.snap_compose.proofs.Memoed.{combined_memo, combined_now}
use Rattle.snap_compose.proofs.Combining.{joined_leaves, joined_later}
use Rattle.snap_compose.proofs.joining.+combined.Goals as goal

pub combined_anew-combined-requires : goal.combined_anew-combined-requires
combined_anew-combined-requires t c =
    let f = subst (IsStart c.args.how c.args.groups.now.ranks (sizes c.args.groups.now c.args.ctx.now) (diagram c.args.nodes.now c.args.a) (diagram c.args.nodes.now c.args.b)) c.in-First.is c.in_ok-leaf.ensures in
    let l = falls_both c.args.a c.args.b c.side-ay.result c.side-by.result _ _ c.side-ay.ensures.within c.side-by.ensures.within c.side-ay.ensures.falls c.side-by.ensures.falls f.starts in
    (omega (arith, l), record { first = side_argument c.args.groups.now c.args.ctx.now c.args.nodes.now c.in-First.first true c.args.a c.side-ay.result c.requires.first c.side-ay.ensures.within c.side-ay.ensures.side; second = side_argument c.args.groups.now c.args.ctx.now c.args.nodes.now c.in-First.first true c.args.b c.side-by.result c.requires.second c.side-by.ensures.within c.side-by.ensures.side; known = c.requires.known })

pub combined_anew-combined-requires-in-First : goal.combined_anew-combined-requires-in-First
combined_anew-combined-requires-in-First t c =
    let f = subst (IsStart c.args.how c.args.groups.now.ranks (sizes c.args.groups.now c.args.ctx.now) (diagram c.args.nodes.now c.args.a) (diagram c.args.nodes.now c.args.b)) c.in-First.is c.in_ok-leaf.ensures in
    let l = falls_both c.args.a c.args.b c.side-an.result c.side-bn.result _ _ c.side-an.ensures.within c.side-bn.ensures.within c.side-an.ensures.falls c.side-bn.ensures.falls f.starts in
    let keep = argument_kept c.args.groups.now c.args.ctx.now c.args.nodes.now c.combined.new.nodes in (
      omega (arith, l),
      record {
        first = keep c.side-an.result c.combined.ensures.extends_arena (side_argument c.args.groups.now c.args.ctx.now c.args.nodes.now c.in-First.first false c.args.a c.side-an.result c.requires.first c.side-an.ensures.within c.side-an.ensures.side);
        second = keep c.side-bn.result c.combined.ensures.extends_arena (side_argument c.args.groups.now c.args.ctx.now c.args.nodes.now c.in-First.first false c.args.b c.side-bn.result c.requires.second c.side-bn.ensures.within c.side-bn.ensures.side);
        known = c.in_ok-y-in-First.ensures.memo;
      },
    )

pub combined_anew-ask-requires-clause-yes : goal.combined_anew-ask-requires-clause-yes
combined_anew-ask-requires-clause-yes t c =
    argument_kept c.args.groups.now c.args.ctx.now c.combined.new.nodes c.combined-in-First.new.nodes c.in_ok-y-in-First.y c.combined-in-First.ensures.extends_arena (record { below = c.in_ok-y-in-First.ensures.number; keeps = c.in_ok-y-in-First.ensures.joined.keeps })

pub combined_anew-ask-requires-clause-above_yes : goal.combined_anew-ask-requires-clause-above_yes
combined_anew-ask-requires-clause-above_yes t c =
    let f = subst (IsStart c.args.how c.args.groups.now.ranks (sizes c.args.groups.now c.args.ctx.now) (diagram c.args.nodes.now c.args.a) (diagram c.args.nodes.now c.args.b)) c.in-First.is c.in_ok-leaf.ensures in
    let ky = kept c.combined.new.nodes c.combined-in-First.new.nodes c.in_ok-y-in-First.y c.combined-in-First.ensures.extends_arena c.in_ok-y-in-First.ensures.number in
    rw ky (c.in_ok-y-in-First.ensures.joined.above c.in-First.first ((c.side-ay.ensures.side c.args.groups.now.ranks (sizes c.args.groups.now c.args.ctx.now) c.requires.first.keeps).over f.first) ((c.side-by.ensures.side c.args.groups.now.ranks (sizes c.args.groups.now c.args.ctx.now) c.requires.second.keeps).over f.second))

pub combined_anew-ask-requires-clause-above_no : goal.combined_anew-ask-requires-clause-above_no
combined_anew-ask-requires-clause-above_no t c =
    let f = subst (IsStart c.args.how c.args.groups.now.ranks (sizes c.args.groups.now c.args.ctx.now) (diagram c.args.nodes.now c.args.a) (diagram c.args.nodes.now c.args.b)) c.in-First.is c.in_ok-leaf.ensures in
    let ha : c.side-an.result < length c.args.nodes.now = omega (arith, c.side-an.ensures.within, c.requires.first.below) in
    let hb : c.side-bn.result < length c.args.nodes.now = omega (arith, c.side-bn.ensures.within, c.requires.second.below) in
    let ka = kept c.args.nodes.now c.combined.new.nodes c.side-an.result c.combined.ensures.extends_arena ha in
    let kb = kept c.args.nodes.now c.combined.new.nodes c.side-bn.result c.combined.ensures.extends_arena hb in
    let jn : IsJoined c.args.groups.now.ranks (sizes c.args.groups.now c.args.ctx.now) c.args.how (diagram c.args.nodes.now c.side-an.result) (diagram c.args.nodes.now c.side-bn.result) (diagram c.combined-in-First.new.nodes c.in_ok-n-in-First.n)
    = rw (sym ka, sym kb) c.in_ok-n-in-First.ensures.joined in
    jn.above c.in-First.first ((c.side-an.ensures.side c.args.groups.now.ranks (sizes c.args.groups.now c.args.ctx.now) c.requires.first.keeps).over f.first) ((c.side-bn.ensures.side c.args.groups.now.ranks (sizes c.args.groups.now c.args.ctx.now) c.requires.second.keeps).over f.second)

pub combined_anew-returns-in-Leaves-clause-joined : goal.combined_anew-returns-in-Leaves-clause-joined
combined_anew-returns-in-Leaves-clause-joined t c =
    let f = subst (IsStart c.args.how c.args.groups.now.ranks (sizes c.args.groups.now c.args.ctx.now) (diagram c.args.nodes.now c.args.a) (diagram c.args.nodes.now c.args.b)) c.in-Leaves.is c.in_ok-leaf.ensures in
    IfOk-weaker c.leaf.result _ _ (λ d n. joined_leaves c.args.groups.now.ranks (sizes c.args.groups.now c.args.ctx.now) c.args.how (diagram c.args.nodes.now c.args.a) (diagram c.args.nodes.now c.args.b) (diagram c.leaf.new.self d) c.in-Leaves.leaf c.requires.first.keeps c.requires.second.keeps f (new_leaf c.leaf.new.self d c.in-Leaves.leaf n.at)) c.leaf.ensures.ok

pub combined_anew-returns-in_ok-n-in-First-clause-joined : goal.combined_anew-returns-in_ok-n-in-First-clause-joined
combined_anew-returns-in_ok-n-in-First-clause-joined t c =
    let f = subst (IsStart c.args.how c.args.groups.now.ranks (sizes c.args.groups.now c.args.ctx.now) (diagram c.args.nodes.now c.args.a) (diagram c.args.nodes.now c.args.b)) c.in-First.is c.in_ok-leaf.ensures in
    let ha : c.side-an.result < length c.args.nodes.now = omega (arith, c.side-an.ensures.within, c.requires.first.below) in
    let hb : c.side-bn.result < length c.args.nodes.now = omega (arith, c.side-bn.ensures.within, c.requires.second.below) in
    let ka = kept c.args.nodes.now c.combined.new.nodes c.side-an.result c.combined.ensures.extends_arena ha in
    let kb = kept c.args.nodes.now c.combined.new.nodes c.side-bn.result c.combined.ensures.extends_arena hb in
    let ky = kept c.combined.new.nodes c.combined-in-First.new.nodes c.in_ok-y-in-First.y c.combined-in-First.ensures.extends_arena c.in_ok-y-in-First.ensures.number in
    let jn : IsJoined c.args.groups.now.ranks (sizes c.args.groups.now c.args.ctx.now) c.args.how (diagram c.args.nodes.now c.side-an.result) (diagram c.args.nodes.now c.side-bn.result) (diagram c.combined-in-First.new.nodes c.in_ok-n-in-First.n)
    = rw (sym ka, sym kb) c.in_ok-n-in-First.ensures.joined in
    IfOk-weaker c.ask.result _ _ (λ d p. joined_later c.args.groups.now.ranks (sizes c.args.groups.now c.args.ctx.now) c.args.how c.in-First.first (diagram c.args.nodes.now c.args.a) (diagram c.args.nodes.now c.args.b)
    (diagram c.args.nodes.now c.side-ay.result) (diagram c.args.nodes.now c.side-an.result) (diagram c.args.nodes.now c.side-by.result) (diagram c.args.nodes.now c.side-bn.result)
    (diagram c.combined.new.nodes c.in_ok-y-in-First.y) (diagram c.combined-in-First.new.nodes c.in_ok-n-in-First.n) (diagram c.ask.new.nodes d)
    f (c.side-ay.ensures.side c.args.groups.now.ranks (sizes c.args.groups.now c.args.ctx.now) c.requires.first.keeps) (c.side-an.ensures.side c.args.groups.now.ranks (sizes c.args.groups.now c.args.ctx.now) c.requires.first.keeps) (c.side-by.ensures.side c.args.groups.now.ranks (sizes c.args.groups.now c.args.ctx.now) c.requires.second.keeps) (c.side-bn.ensures.side c.args.groups.now.ranks (sizes c.args.groups.now c.args.ctx.now) c.requires.second.keeps) c.in_ok-y-in-First.ensures.joined jn (rw (sym ky) p)) c.ask.ensures.pick

pub combined_anew-returns-in-Leaves-clause-memo : goal.combined_anew-returns-in-Leaves-clause-memo
combined_anew-returns-in-Leaves-clause-memo t c = IfOk-weaker c.leaf.result _ _ (λ d n. combined_memo c.args.groups.now.ranks (sizes c.args.groups.now c.args.ctx.now) c.args.how c.args.nodes.now c.leaf.new.self c.args.memo.now c.leaf.ensures.extends_arena c.requires.known) c.leaf.ensures.number

pub combined_anew-returns-in_ok-n-in-First-clause-memo : goal.combined_anew-returns-in_ok-n-in-First-clause-memo
combined_anew-returns-in_ok-n-in-First-clause-memo t c = IfOk-weaker c.ask.result _ _ (λ d n. combined_memo c.args.groups.now.ranks (sizes c.args.groups.now c.args.ctx.now) c.args.how c.combined-in-First.new.nodes c.ask.new.nodes c.combined-in-First.new.memo c.ask.ensures.extends_arena c.in_ok-n-in-First.ensures.memo) c.ask.ensures.number

pub combined-returns-in-Some-clause-number : goal.combined-returns-in-Some-clause-number
combined-returns-in-Some-clause-number t c = (c.requires.known (c.args.a ∷ c.args.b ∷ []) c.in-Some.d (sym c.in-Some.ensures)).number

pub combined-returns-in-Some-clause-joined : goal.combined-returns-in-Some-clause-joined
combined-returns-in-Some-clause-joined t c = (c.requires.known (c.args.a ∷ c.args.b ∷ []) c.in-Some.d (sym c.in-Some.ensures)).joined

pub combined-returns-clause-memo : goal.combined-returns-clause-memo
combined-returns-clause-memo t c =
    remembers_more (CombinedFor c.args.groups.now.ranks (sizes c.args.groups.now c.args.ctx.now) c.args.how c.combined_anew.new.nodes) c.combined_anew.new.memo c.put.new.self (c.args.a ∷ c.args.b ∷ []) c.in_ok-d.d c.in_ok-d.ensures.memo
    (combined_now c.args.groups.now.ranks (sizes c.args.groups.now c.args.ctx.now) c.args.how c.args.nodes.now c.combined_anew.new.nodes c.args.a c.args.b c.in_ok-d.d c.combined_anew.ensures.extends_arena c.requires.first.below c.requires.second.below c.in_ok-d.ensures.number c.in_ok-d.ensures.joined)
    c.in_ok-put.ensures.ok
