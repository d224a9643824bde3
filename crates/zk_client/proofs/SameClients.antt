-- Clients with the same fields are one: what is known of them has one proof at most.
use Rattle.std.proofs.Common.{◌≡◌, ◌≤◌, false, length}
use Rattle.std.proofs.Props.{props}
use mathlib.Core.HLevel.{is_prop→PathP}
use Rattle.zk_limits.specs.declared.limits.TheConstants.{LONGEST_PASSWORD}
use Rattle.zk_client.specs.declared.client.Client.{Client}
use Rattle.zk_client.specs.inner.Sound.{CoreIsSound, IsReadingFor}

pub same_client : {A : Type 0} (a b : Client A) → a.core ≡ b.core → a.reader ≡ b.reader → a ≡ b
same_client a b p q = λ i. record {
  core = p i;
  reader = q i;
  sound = is_prop→PathP (λ j. (p j).halted ≡ false → CoreIsSound (p j)) (λ j. hlevel props) a.sound b.sound i;
  reading = is_prop→PathP (λ j. (p j).halted ≡ false → IsReadingFor (p j) (q j)) (λ j. hlevel props) a.reading b.reading i;
  short = is_prop→PathP (λ j. length (p j).session.saved.session.password ≤ LONGEST_PASSWORD) (λ j. hlevel props) a.short b.short i;
}
