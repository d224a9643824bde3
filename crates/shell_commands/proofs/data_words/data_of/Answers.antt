-- The data are those of the rows: what `data_with` ensures of the word, the file and the flags that the rows give (`given_by`).
use Rattle.std.proofs.Common.{◌≡◌, ◌∙◌, Bool, List, ap, sym, codes, map, Option}
use Rattle.std.proofs.lemmas.Result.{IfErr-weaker, IfOk-weaker}
use Rattle.std.specs.Option.{option_map}
use Rattle.clap.specs.Words.{Row, Text, first_of, found_of, rows_of}
use Rattle.shell_commands.specs.Asks.{data_in, data_with, flag}
use Rattle.shell_commands.proofs.AddressLemmas.{tells_more}
use Rattle.shell_commands.proofs.data_words.data_of.Goals as goal

-- the data by what was given
given_by : (rows : List Row) (file word : Option Text) (is_null is_hex : Bool)
    → first_of (codes "from") rows ≡ file → first_of (codes "DATA") rows ≡ word
    → flag (codes "null") rows ≡ is_null → flag (codes "hex") rows ≡ is_hex → data_in rows ≡ data_with file word is_null is_hex
given_by rows file word is_null is_hex zero one two three =
    ap (λ (o : Option Text). data_with o (first_of (codes "DATA") rows) (flag (codes "null") rows) (flag (codes "hex") rows)) zero
    ∙ ap (λ (o : Option Text). data_with file o (flag (codes "null") rows) (flag (codes "hex") rows)) one
    ∙ ap (λ (b : Bool). data_with file word b (flag (codes "hex") rows)) two ∙ ap (λ (b : Bool). data_with file word is_null b) three

pub returns-clause-ok : goal.returns-clause-ok
returns-clause-ok c =
    let means = given_by (rows_of (found_of c.args.matches.now)) _ _ c.flag-is_null.result c.flag-is_hex.result
    (sym c.given-file.ensures) (sym c.given-word.ensures) (sym c.flag-is_null.ensures) (sym c.flag-is_hex.ensures) in
    IfOk-weaker c.data_with.result _ _ (λ bytes read. means ∙ read) c.data_with.ensures.ok

pub returns-clause-err : goal.returns-clause-err
returns-clause-err c =
    let means = given_by (rows_of (found_of c.args.matches.now)) _ _ c.flag-is_null.result c.flag-is_hex.result
    (sym c.given-file.ensures) (sym c.given-word.ensures) (sym c.flag-is_null.ensures) (sym c.flag-is_hex.ensures) in
    IfErr-weaker c.data_with.result _ _ (λ fault told. tells_more _ _ fault (λ unread. means ∙ unread) told) c.data_with.ensures.err
