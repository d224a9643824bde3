-- What comes after the last slash is the last name, by `parted`; a text may be cut there, since a slash is ASCII
-- (`IsCharBoundary-after_ascii`).
use Rattle.std.proofs.Common.{◌≡◌, ◌+◌, Some, drop, length, sym, ap, ◌∙◌, get_or, arith}
use Rattle.std.proofs.lemmas.Str.{IsCharBoundary-after_ascii}
use Rattle.zk_nodes.proofs.PathLemmas.{IsPath-text, IsPath-names}
use Rattle.zk_nodes.proofs.PathTexts.{parted}
use Rattle.zk_nodes.proofs.path.Path.name.Goals as goal

pub range_from-requires : goal.range_from-requires
range_from-requires g c = λ _.
    let e : get_or c.as_str-text.result.now c.last_slash-cut.result 0 ≡ 47 =
    ap (λ t. get_or t c.last_slash-cut.result 0) (sym c.as_bytes.ensures.value) ∙ c.last_slash-cut.ensures.slash in
    IsCharBoundary-after_ascii c.as_str-text.result.now c.last_slash-cut.result c.as_str-text.utf8
    (omega (arith, c.as_bytes.ensures.len)) (omega (arith, e))

pub returns : goal.returns
returns g c =
    let is = c.as_str-text.ensures.path in
    let same : c.as_bytes.result.now ≡ c.args.self.now = c.as_bytes.ensures.value ∙ c.as_str-text.ensures.text in
    let more : length c.as_bytes.result.now ≡ 1 → ⊥ = λ e. c.if-text-eq1.false (sym c.as_bytes.ensures.len ∙ e) in
    let p =
    parted _ c.as_bytes.result.now c.last_slash-cut.result (IsPath-text c.args.self.now is ∙ sym same) (IsPath-names c.args.self.now is)
    more c.last_slash-cut.ensures.within c.last_slash-cut.ensures.slash c.last_slash-cut.ensures.last in
    ap Some (c.range_from.ensures.value ∙ ap (drop (c.last_slash-cut.result + 1)) (sym c.as_bytes.ensures.value)) ∙ p.2
