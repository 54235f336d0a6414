-- Numbers from 1 to 64 in words.
use Rattle.std.specs.Prelude.{ℕ, Option, decimal}
use Rattle.std.specs.List.{find, range_with_len}
use Rattle.std.specs.Str.{bytes_eq}
use Rattle.snap_words.specs.Words.{Text}

-- the number from 1 to 64 that the text is in decimal, without a sign or a leading zero
unfoldable pub count_of : Text → Option ℕ
count_of text = find (λ n. bytes_eq (decimal n) text) (range_with_len 1 64)
