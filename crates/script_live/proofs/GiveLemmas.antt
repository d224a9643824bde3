-- What is given of what a client says: the outputs that a caller is given, picked one by one.
use Rattle.std.proofs.Common.{◌≡◌, Bool, true, false, List, [], ◌∷◌, ◌++◌, refl, ap, ◌∙◌}
use Rattle.std.specs.Prelude.{Result, Ok, Err, ◌||◌, is_ok, OnOk, OnErr, if◌then◌else◌}
use Rattle.std.specs.List.{filter, list_any}
use Rattle.std.proofs.lemmas.List.{map-append}
use Rattle.zk_turns.specs.Turns.{Output, ends_connection}
use Rattle.zk_client.specs.declared.output.Output.{Output as Made}
use Rattle.zk_client.specs.Views.{output_view, said}
use Rattle.script_live.specs.Trails.{is_given}

picked : {A : Type 0} (picks : Bool) (output : Made A) (rest : List (Made A)) (told : List Output) → said rest ≡ told
    → said (if picks then output ∷ rest else rest) ≡ (if picks then output_view output ∷ told else told)
picked true output rest told e = ap (λ (l : List Output). output_view output ∷ l) e
picked false output rest told e = e

said_given : {A : Type 0} (made : List (Made A))
    → said (filter (λ output. is_given (output_view output)) made) ≡ filter is_given (said made)
said_given [] = refl
said_given (output ∷ made) =
    picked (is_given (output_view output)) output (filter (λ output. is_given (output_view output)) made)
    (filter is_given (said made)) (said_given made)

added : {A : Type 0} (old made given new : List (Made A))
    → given ≡ filter (λ output. is_given (output_view output)) made → new ≡ old ++ given
    → said new ≡ said old ++ filter is_given (said made)
added old made given new e f =
    ap said f ∙ map-append output_view old given ∙ ap (λ (l : List Output). said old ++ l) (ap said e ∙ said_given made)

pub gives : {A X E : Type 0} (result : Result X E) (old made given new : List (Made A))
    → given ≡ filter (λ output. is_given (output_view output)) made
    → new ≡ (if is_ok result then old ++ given else old) → OnOk result (said new ≡ said old ++ filter is_given (said made))
gives (Ok x) old made given new e f = added old made given new e f
gives (Err x) old made given new e f = tt

pub keeps : {A X E : Type 0} (result : Result X E) (old given new : List (Made A)) → new ≡ (if is_ok result then old ++ given else old)
    → OnErr result (new ≡ old)
keeps (Ok x) old given new f = tt
keeps (Err x) old given new f = f

-- a test of what outputs say is one of the outputs
pub ends_said : {A : Type 0} (made : List (Made A))
    → list_any ends_connection (said made) ≡ list_any (λ output. ends_connection (output_view output)) made
ends_said [] = refl
ends_said (output ∷ made) = ap (λ (b : Bool). ends_connection (output_view output) || b) (ends_said made)
