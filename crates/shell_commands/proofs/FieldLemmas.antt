-- The lines of a record's fields, one after another, are its `fields_lines`: by induction over the fields.
use Rattle.std.proofs.Common.{◌≡◌, ◌++◌, [], ◌∷◌, List, ℕ, refl, sym, ap}
use Rattle.std.proofs.lemmas.List.{append-nil}
use Rattle.std.specs.Borrow.{Bor}
use Rattle.std.specs.List.{flat_map}
use Rattle.script_words.specs.Lines.{line}
use Rattle.shell_commands.specs.declared.fields.PrintedField.{PrintedField}
use Rattle.shell_commands.specs.inner.Fields.{field_word, fields_lines}

-- the line of a field, with its name
abbrev pub line_of : {A : Type 0} → Bor (List ℕ) × PrintedField A → List ℕ
line_of f = line f.0.now (field_word f.1)

-- with nothing after the last line, these are the lines one after another
pub one_by_one : {A : Type 0} (fields : List (Bor (List ℕ) × PrintedField A)) → fields_lines fields ≡ flat_map line_of fields
one_by_one [] = refl
one_by_one (f ∷ []) = sym (append-nil (line_of f))
one_by_one (f ∷ (next ∷ fields)) = ap (λ (x : List ℕ). line_of f ++ x) (one_by_one (next ∷ fields))
