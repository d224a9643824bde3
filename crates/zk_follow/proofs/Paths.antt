-- The paths that outputs report, one output after another: one more path is there, and else what was there before.
use Rattle.std.proofs.Common.{◌≡◌, ◌<◌, ◌+◌, ◌∙◌, ◌||◌, ℕ, Bool, true, false, List, [], length, get_or, take, bytes_eq, refl, sym, ap}
use Rattle.std.proofs.Common.{Option, Some, string_bytes, if◌then◌else◌}
use Rattle.std.specs.Map.{lookup}
use Rattle.std.specs.Prelude.{is_some}
use Rattle.std.specs.List.{list_any}
use Rattle.std.proofs.lemmas.List.Folds.{list_any_more}
use Rattle.zk_nodes.specs.Path.{Text}
use Rattle.zk_client.specs.declared.output.Output.{Output as Made}
use Rattle.zk_client.specs.Views.{output_view, said}
use Rattle.zk_follow.specs.Following.{is_report_of}
use Rattle.zk_follow.specs.inner.Reported.{has_report_of, AreReported}
use Rattle.zk_follow.specs.declared.reported.Reported.{Reported}
use Rattle.zk_follow.proofs.Telling.{any_said}

-- what is put somewhere is there
pub some_if : {X : Type 0} (b : Bool) (x : X) (o : Option X) → is_some (if b then Some x else o) ≡ (b || is_some o)
some_if true x o = refl
some_if false x o = refl

either : (a b : Bool) → (a || b) ≡ (b || a)
either true true = refl
either true false = refl
either false true = refl
either false false = refl

pub none_in : {A : Type 0} (reported : Reported A) → reported.paths.entries ≡ [] → (path : Text) → has_report_of reported path ≡ false
none_in reported none path = ap (λ es. is_some (lookup (λ k. bytes_eq path (string_bytes k)) es)) none

pub reported_more : {A : Type 0} (old new : Reported A) (outputs : List (Made A)) (index : ℕ) (output : Made A)
    → index < length outputs → output ≡ get_or outputs index output
    → ((path : Text) → has_report_of new path ≡ (is_report_of path (output_view output) || has_report_of old path))
    → AreReported old (said (take index outputs)) → AreReported new (said (take (index + 1) outputs))
reported_more {A} old new outputs index output within at adds are path =
    let test = λ (o : Made A). is_report_of path (output_view o) in
    adds path ∙ ap (λ b. test output || b) (are path ∙ any_said (is_report_of path) (take index outputs))
    ∙ either (test output) (list_any test (take index outputs))
    ∙ ap (λ o. list_any test (take index outputs) || test o) at
    ∙ sym (list_any_more test outputs index output within)
    ∙ sym (any_said (is_report_of path) (take (index + 1) outputs))
