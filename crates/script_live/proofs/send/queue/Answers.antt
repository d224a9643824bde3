-- The frames of one output more are its own behind those so far.
use Rattle.std.proofs.Common.{◌≡◌, ◌<◌, ◌+◌, ◌++◌, ◌∷◌, [], ℕ, List, length, get_or, take, map, sym, ap, ◌∙◌, append_assoc}
use Rattle.std.proofs.lemmas.Grind.{flat_map-append}
use Rattle.std.proofs.lemmas.List.{append-nil, map_more}
use Rattle.std.specs.List.{flat_map}
use Rattle.zk_client.specs.Views.{output_view, said}
use Rattle.script_live.specs.Frames.{frame_in, frames}
use Rattle.script_live.proofs.send.queue.Goals as goal

-- what a function gives of one more of a list, each seen by a view
one_more : {X Y : Type 0} (f : Y → List ℕ) (view : X → Y) (xs : List X) (at : ℕ) (x : X) → at < length xs → x ≡ get_or xs at x
    → flat_map f (map view (take (at + 1) xs)) ≡ flat_map f (map view (take at xs)) ++ f (view x)
one_more f view xs at x within is =
    rw (map_more view xs at x within, ← is)
    (flat_map-append f (map view (take at xs)) (view x ∷ []) ∙ ap (λ t. flat_map f (map view (take at xs)) ++ t) (append-nil (f (view x))))

pub loop-output-preserved : goal.loop-output-preserved
loop-output-preserved g c =
    let so_far = frames (said (take c.loop-output.output-index c.args.outputs.now)) in
    let frame = frame_in (output_view c.output-item.result) in
    c.in_ok-queue_one.ensures
    ∙ (ap (λ bytes. bytes ++ frame) c.loop-output.invariant
    ∙ (append_assoc c.args.unsent.now.items so_far frame
    ∙ ap (λ more. c.args.unsent.now.items ++ more)
    (sym (one_more frame_in output_view c.args.outputs.now c.loop-output.output-index c.output-item.result c.loop-output-test.true
    c.output-item.is))))
