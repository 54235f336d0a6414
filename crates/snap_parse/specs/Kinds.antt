-- Whether two tokens are of one kind.
use Rattle.std.specs.Prelude.{ℕ, Bool, true, false, nat_eq}
pub use Rattle.snap_lex.specs.declared.Token.{Token}
pub use Rattle.snap_lex.specs.declared.Kind.{Kind}
use Rattle.snap_lex.specs.declared.Kind.TheVariants as kinds
pub use Rattle.snap_lex.specs.declared.Key.{Key}
use Rattle.snap_lex.specs.declared.Key.TheVariants as keys
pub use Rattle.snap_lex.specs.declared.Sign.{Sign}
use Rattle.snap_lex.specs.declared.Sign.TheVariants as signs

-- numbers for keywords and signs
abbrev pub key_code : Key → ℕ
key_code keys.Field = 0
key_code keys.Array = 1
key_code keys.Const = 2
key_code keys.Let = 3
key_code keys.If = 4
key_code keys.Then = 5
key_code keys.Else = 6
key_code keys.Id = 7
key_code keys.Drop = 8
key_code keys.Atomic = 9
key_code keys.True = 10
key_code keys.False = 11

abbrev pub sign_code : Sign → ℕ
sign_code signs.PlusPlus = 0
sign_code signs.MinusMinus = 1
sign_code signs.Arrow = 2
sign_code signs.OpenSquare = 3
sign_code signs.CloseSquare = 4
sign_code signs.OpenRound = 5
sign_code signs.CloseRound = 6
sign_code signs.OpenCurly = 7
sign_code signs.CloseCurly = 8
sign_code signs.Equals = 9
sign_code signs.Not = 10
sign_code signs.And = 11
sign_code signs.Or = 12
sign_code signs.Plus = 13
sign_code signs.Semicolon = 14
sign_code signs.Slash = 15
sign_code signs.PlusEquals = 16
sign_code signs.MinusEquals = 17

abbrev pub same_kind : Kind → Kind → Bool
same_kind kinds.Word kinds.Word = true
same_kind kinds.Number kinds.Number = true
same_kind kinds.Address kinds.Address = true
same_kind (kinds.Key a) (kinds.Key b) = nat_eq (key_code a) (key_code b)
same_kind (kinds.Sign a) (kinds.Sign b) = nat_eq (sign_code a) (sign_code b)
same_kind _ _ = false
