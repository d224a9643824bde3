-- A list of lent names is read as the list of their texts, and a null one as empty: `names-lent`, in what the read of the record ensures.
use Rattle.std.proofs.Common.{Result, ℕ, List, Ok, ap}
use Rattle.std.specs.Option.{option_map}
use Rattle.zk_jute.specs.declared.fault.TakeError.{TakeError}
use Rattle.zk_jute.specs.Layout.{Value}
use Rattle.zk_jute.specs.Reading.{◌>>=◌}
use Rattle.zk_records.specs.Layouts.{get_children2_response}
use Rattle.zk_conversation.specs.Results.{Listing, stat_of, texts_of}
use Rattle.zk_conversation.proofs.Names.{names-lent}
use Rattle.zk_conversation.proofs.result.read_names.Goals as goal

pub returns : goal.returns
returns g c =
    let e = names-lent (λ v. v.items)
    (λ t. option_map (λ s. s.now) t.text) c.in_ok-found.found.children.elements c.new.result c.new.ensures.items in
    rw (c.unwrap_or-names.ensures, ← e)
    (ap (λ (r : Result (Value get_children2_response × List ℕ) TakeError). r
    >>= λ found. Ok (Listing (texts_of found.0.0) (stat_of found.0.1))) c.in_ok-found.ensures.gives)
