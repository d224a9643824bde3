-- A refusal of the markers is true as `lent_texts` ensures (`refuses_markers`); where not one is read, none is spelled: `no_markers`.
use Rattle.std.proofs.Common.{◌∙◌, ap, inr, map, refl, sym}
use Rattle.ffi_device.specs.Codes.{refusal_code}
use Rattle.ffi_device.specs.Standings.{RefusesStanding}
use Rattle.ffi_device.proofs.Refusing.{on_refused, refuses_markers}
use Rattle.ffi_device.proofs.Spelled.{no_markers}
use Rattle.ffi_device.proofs.standings.stands_among.Goals as goal

pub returns-in_err-markers-clause-refused : goal.returns-in_err-markers-clause-refused
returns-in_err-markers-clause-refused c =
    let contender = c.args.contender.now in
    on_refused c.from_residual-in_err-markers.result c.in_err-markers.field-0.0
    (λ refusal. RefusesStanding c.args.directory.now c.args.name.now contender.names.now contender.markers.now (refusal_code refusal))
    c.from_residual-in_err-markers.ensures.1 (refuses_markers c.args.directory.now c.args.name.now contender.names.now contender.markers.now
    c.in_err-markers.field-0.0 c.in_err-markers.ensures.refused)

pub returns-in-None-clause-refused : goal.returns-in-None-clause-refused
returns-in-None-clause-refused c =
    inr (no_markers (map (λ text. text.now) c.in_ok-markers.markers.items) c.args.contender.now.markers.now
    (ap (map (λ text. text.now)) (sym c.as_slice.ensures.value ∙ c.in-None.ensures.none refl)) c.in_ok-markers.ensures.ok)
