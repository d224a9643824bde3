-- Where no text begins what is left, the bytes spell no texts at all: `no_more`, from the invariant. What is left gets `shorter`.
use Rattle.std.proofs.Common.{◌≡◌, ◌∙◌, [], map, refl, rules, sym}
use Rattle.zk_jute.specs.Cursor.{bytes_left}
use Rattle.ffi_device.proofs.Spelled.{no_more, shorter}
use Rattle.ffi_device.proofs.texts.lent_texts.Goals as goal

pub returns-in-None-clause-refused : goal.returns-in-None-clause-refused
returns-in-None-clause-refused c texts are =
    let some : (bytes_left c.loop-at.at ≡ []) → ⊥ = search rules in
    no_more (bytes_left c.loop-at.at) some (c.in-None.ensures.none refl)
    (map (λ text. text.now) c.loop-at.texts.items) texts c.loop-at.invariant.fits are.fits (sym c.loop-at.invariant.whole ∙ are.is)

pub loop-at-smaller : goal.loop-at-smaller
loop-at-smaller c = shorter c.in-Some.text.now (bytes_left c.loop-at.at) (bytes_left c.next_text.new.at) c.in-Some.ensures.some.1
