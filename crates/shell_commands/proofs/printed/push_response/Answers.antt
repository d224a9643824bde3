-- The lines of a response: those of four fields, as `push_fields` ensures, and that of `readOnly`, by associativity (`one_more`).
use Rattle.std.proofs.Common.{◌≡◌, ◌++◌, List, ℕ, codes, append_assoc}
use Rattle.std.proofs.lemmas.Result.{on_ok_weaker}
use Rattle.std.specs.Prelude.{string_bytes}
use Rattle.std.specs.Fmt.{signed_decimal}
use Rattle.script_words.specs.Words.{bytes_word, optional_boolean_word}
use Rattle.script_words.specs.Lines.{line}
use Rattle.shell_commands.proofs.printed.push_response.Goals as goal

one_more : (t a b c d e : List ℕ) → (t ++ (a ++ (b ++ (c ++ d)))) ++ e ≡ t ++ (a ++ (b ++ (c ++ (d ++ e))))
one_more t a b c d e = simp append_assoc

pub returns : goal.returns
returns g c =
    let r = c.args.response.now in
    on_ok_weaker c.push_optional_boolean.result
    (λ (written : string_bytes c.push_optional_boolean.new.text
    ≡ string_bytes c.push_fields.new.text ++ line (codes "readOnly") (optional_boolean_word r.read_only)).
    rw (written, c.in_ok-push_fields.ensures)
    (one_more (string_bytes c.args.text.now) (line (codes "protocolVersion") (signed_decimal r.protocol_version))
    (line (codes "timeOut") (signed_decimal r.time_out))
    (line (codes "sessionId") (signed_decimal r.session_id)) (line (codes "passwd") (bytes_word r.passwd))
    (line (codes "readOnly") (optional_boolean_word r.read_only))))
    c.push_optional_boolean.ensures
