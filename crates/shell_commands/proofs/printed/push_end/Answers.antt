-- The last lines are how many bytes are ignored, and the frame in hex: what the called functions ensure, rewritten, by `append_assoc`.
use Rattle.std.proofs.Common.{◌≡◌, ◌++◌, append_assoc, codes}
use Rattle.std.proofs.lemmas.Result.{on_ok_weaker}
use Rattle.std.specs.Prelude.{string_bytes}
use Rattle.std.specs.Fmt.{decimal}
use Rattle.hex.specs.Hex.{encode_lower}
use Rattle.script_words.specs.Lines.{line}
use Rattle.shell_commands.specs.Print.{frame_of}
use Rattle.shell_commands.proofs.printed.push_end.Goals as goal

pub returns : goal.returns
returns g c =
    on_ok_weaker c.push_line.result
    (λ (written : string_bytes c.push_line.new.text ≡ string_bytes c.push_shown.new.text ++ line (codes "frame") c.as_str.result.now) rest
    len. rw (
      written,
      c.in_ok-push_shown.ensures,
      len,
      c.as_str.ensures.value,
      c.in_ok-word.ensures,
      c.as_slice.ensures.value,
      c.in_ok-frame.ensures,
    )
    (append_assoc (string_bytes c.args.text.now) (line (codes "ignored") (decimal c.args.ignored))
    (line (codes "frame") (encode_lower (frame_of c.args.spelled.now)))))
    c.push_line.ensures
