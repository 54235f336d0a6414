-- What `equal` did, from what its steps did.
use Rattle.std.proofs.Common.{ℕ, List, [], Option, Ok, Err, refl, inl, inr, codes}
use Rattle.snap_words.specs.Commands.{equal}
use Rattle.snap_cli.specs.declared.refusal.Refusal.TheVariants.{Declarations, Differ}
use Rattle.snap_cli.specs.Equal.{MeetsEqual}
use Rattle.snap_cli.proofs.Shared.{Ending, file_of, Files, Meets, NoMemory, Program, ProgramOf, Race, Write}
use Rattle.snap_cli.proofs.EqualOnce.{race_never, differ_same}
use Rattle.snap_cli.proofs.RefusedBy.{Refuses}

module _ (files : Files) (l r : List ℕ) where
  pub equal-refuses : Refuses files (equal l r) l
  equal-refuses = record { ends = λ e h. inl (e, inl h, refl); text = λ e h. inl (e, inl h, refl); read = inl (refl, refl); memory = refl }

  -- the first program was read
  module _ (p : Program) (left : ProgramOf (file_of files l) (Ok p)) where
    pub equal-refuses-second : Refuses files (equal l r) r
    equal-refuses-second = record { ends = λ e h. inl (e, inr (p, left, h), refl); text = λ e h. inl (e, inr (p, left, h), refl); read = inr (refl, (p, left), refl); memory = refl }

    -- and the second
    module _ (q : Program) (right : ProgramOf (file_of files r) (Ok q)) (old new : Option (List ℕ)) where
      pub meets-equal : (e : Ending) → MeetsEqual p q e old new → Meets files (equal l r) e old new
      meets-equal (Ok u) m = (inr (p, q, left, right, (m.0, m.1)), (codes "equal\n", inr (p, q, left, right, inl (m.0, m.1, refl)), m.2))
      meets-equal (Err Write) m = inr (codes "equal\n", inr (p, q, left, right, inl (m.0, m.1, refl)), m.2)
      meets-equal (Err NoMemory) m = ([], refl, (0, m))
      meets-equal (Err Declarations) m = (inr (p, q, left, right, m.0), ([], inr (p, q, left, right, inr ((λ race_free same. m.0 race_free.declared), refl)), m.1))
      meets-equal (Err (Race text)) m = (inr (p, q, left, right, m.0), ([], inr (p, q, left, right, inr ((λ race_free same. race_never p q p q refl refl text.items m.0.1 race_free), refl)), m.1))
      meets-equal (Err (Differ text)) m = (inr (p, q, left, right, m.0), ([], inr (p, q, left, right, inr ((λ race_free same. differ_same p q p q refl refl m.0.1.0 m.0.1.1 m.0.1.2 same), refl)), m.1))
      meets-equal (Err e) m = absurd m.0
