-- By the case of the refusal: a code is three pieces, with its number and its words (`three_pieces`), any other is one text (`one_piece`).
use Rattle.std.proofs.Common.{◌≡◌, ◌∙◌, ◌++◌, ℕ, ℤ, List, ap, codes, rules, subst, to_z, of_z, w32}
use Rattle.std.specs.Prelude.{string_bytes, OnOk}
use Rattle.std.specs.Fmt.{signed_decimal}
use Rattle.script_words.specs.Values.{spaced}
use Rattle.shell_watch.specs.Lines.{code_words, why_text}
use Rattle.shell_watch.proofs.Pieces.{one_piece, three_pieces}
use Rattle.shell_watch.proofs.words.push_refusal.Goals as goal

pub returns-in_ok-push_word-in-Code : goal.returns-in_ok-push_word-in-Code
returns-in_ok-push_word-in-Code g c =
    let before = string_bytes c.args.text.now in
    let amid = string_bytes c.push_word.new.text in
    let after = string_bytes c.push_spaced.new.text in
    let name = codes " refused code" in
    let same : to_z w32 (of_z w32 c.in-Code.code) ≡ c.in-Code.code = search rules in
    let first : amid ≡ (before ++ name) ++ spaced (signed_decimal c.in-Code.code) =
    subst (λ (z : ℤ). amid ≡ (before ++ name) ++ spaced (signed_decimal z)) same
    (c.in_ok-push_word-in-Code.ensures
    ∙ ap (λ (l : List ℕ). l ++ spaced (signed_decimal (to_z w32 (of_z w32 c.in-Code.code)))) c.in_ok-push_str-in-Code.ensures.bytes) in
    let last : OnOk c.push_spaced.result (after ≡ amid ++ spaced (code_words c.in-Code.code)) =
    subst (λ (w : List ℕ). OnOk c.push_spaced.result (after ≡ amid ++ spaced w))
    (c.code_words.ensures ∙ ap code_words same) c.push_spaced.ensures in
    rw c.in-Code.is (three_pieces c.push_spaced.result before name (spaced (signed_decimal c.in-Code.code))
    (spaced (code_words c.in-Code.code)) amid after first last)

pub returns-in-TooManyWatches : goal.returns-in-TooManyWatches
returns-in-TooManyWatches g c = one_piece c.push_str-in-TooManyWatches.result (string_bytes c.args.text.now) (why_text c.args.why)
    (string_bytes c.push_str-in-TooManyWatches.new.self) (rw c.in-TooManyWatches.is c.push_str-in-TooManyWatches.ensures.bytes)

pub returns-in-TooLarge : goal.returns-in-TooLarge
returns-in-TooLarge g c = one_piece c.push_str-in-TooLarge.result (string_bytes c.args.text.now) (why_text c.args.why)
    (string_bytes c.push_str-in-TooLarge.new.self) (rw c.in-TooLarge.is c.push_str-in-TooLarge.ensures.bytes)

pub returns-in-SessionClosed : goal.returns-in-SessionClosed
returns-in-SessionClosed g c = one_piece c.push_str-in-SessionClosed.result (string_bytes c.args.text.now) (why_text c.args.why)
    (string_bytes c.push_str-in-SessionClosed.new.self) (rw c.in-SessionClosed.is c.push_str-in-SessionClosed.ensures.bytes)
