-- `as_utf8`, by the case of what `str::from_utf8` gives: the test `is_utf8` is true exactly where `IsUtf8` holds of the bytes.
use Rattle.std.proofs.Common.{◌≡◌, Bool, true, false, refl}
use Rattle.std.proofs.lemmas.Str.{IsUtf8-from_is_utf8, is_utf8-from_IsUtf8}
use Rattle.shell_words.proofs.texts.as_utf8.Goals as goal

not_true : (b : Bool) → (b ≡ true → ⊥) → b ≡ false
not_true true h = absurd (h refl)
not_true false h = refl

pub returns-in-Ok : goal.returns-in-Ok
returns-in-Ok c = (c.in-Ok.ensures.cases.0, is_utf8-from_IsUtf8 _ c.in-Ok.ensures.cases.1)

pub returns-in-Err : goal.returns-in-Err
returns-in-Err c = not_true _ (λ test. c.in-Err.ensures.cases.0 (IsUtf8-from_is_utf8 _ test))
