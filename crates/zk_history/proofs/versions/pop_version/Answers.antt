-- The last version of the text goes and the others' stay: `versions_written`, with what `pop` ensures of the vector lent. A text with no
-- versions has none to lose, by `versions_kept`.
use Rattle.std.proofs.Common.{◌≡◌, ◌-◌, [], refl, sym, ap, ◌∙◌, length, take, rules, arith}
use Rattle.std.proofs.lemmas.Bool.Decides.{nat_tests}
use Rattle.std.specs.Option.{option_map_or}
use Rattle.zk_history.specs.Versions.{versions_of}
use Rattle.zk_history.specs.inner.Versions.{without_last}
use Rattle.zk_history.proofs.VersionsLemmas.{versions_written, versions_kept}
use Rattle.zk_history.proofs.versions.pop_version.Goals as goal

pub returns-in-Some : goal.returns-in-Some
returns-in-Some g c =
    let had : versions_of c.args.versions.now c.args.at.now ≡ c.in-Some.held.now.items =
    ap (λ o. option_map_or (λ v. v.items) o []) (sym c.in-Some.ensures.value) in
    let len : c.in-Some.held.now.len ≡ length c.in-Some.held.now.items = grind (arith, nat_tests) in
    versions_written c.args.at.now c.args.versions.now (c.get_mut.follows.lender c.pop.new.self) c.pop.new.self without_last
    c.in-Some.held.now.items had (c.pop.ensures.rest ∙ ap (λ n. take (n - 1) c.in-Some.held.now.items) len)
    ((c.get_mut.follows.holds c.pop.new.self).3 (search rules))

pub returns-in_default : goal.returns-in_default
returns-in_default g c =
    let same = c.get_mut.follows.holds-at-none in
    let had : versions_of c.args.versions.now c.args.at.now ≡ [] =
    ap (λ o. option_map_or (λ v. v.items) o []) (sym c.in_default.ensures.value) in
    λ text. ap (λ m. versions_of m text) same ∙ versions_kept c.args.at.now c.args.versions.now without_last had refl text
