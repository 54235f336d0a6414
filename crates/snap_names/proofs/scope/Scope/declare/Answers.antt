use Rattle.std.proofs.Common.{sym, subst}
use Rattle.snap_parse.specs.Tree.{decl_tree}
use Rattle.snap_names.specs.Scopes.{Declares}
use Rattle.snap_names.proofs.scope.Scope.declare.Goals as goal

pub returns-in-Field : goal.returns-in-Field
returns-in-Field c = subst (λ t. Declares (decl_tree t) c.args.self.now c.declare_field.new.self c.args.tally.now.arities.items c.args.tally.now.arities.items c.declare_field.result) (sym c.in-Field.is) (c.declare_field.ensures c.in-Field.at c.args.tally.now.arities.items)

pub returns-in-Array : goal.returns-in-Array
returns-in-Array c = subst (λ t. Declares (decl_tree t) c.args.self.now c.declare_array.new.self c.args.tally.now.arities.items c.declare_array.new.tally.arities.items c.declare_array.result) (sym c.in-Array.is) (c.declare_array.ensures c.in-Array.at)

pub returns-in-Const : goal.returns-in-Const
returns-in-Const c = subst (λ t. Declares (decl_tree t) c.args.self.now c.declare_constant.new.self c.args.tally.now.arities.items c.args.tally.now.arities.items c.declare_constant.result) (sym c.in-Const.is) (c.declare_constant.ensures c.in-Const.at c.args.tally.now.arities.items)

pub returns-in-Let : goal.returns-in-Let
returns-in-Let c = subst (λ t. Declares (decl_tree t) c.args.self.now c.declare_let.new.self c.args.tally.now.arities.items c.declare_let.new.tally.arities.items c.declare_let.result) (sym c.in-Let.is) (c.declare_let.ensures c.in-Let.at)
