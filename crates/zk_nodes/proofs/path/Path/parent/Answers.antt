-- What comes before the last slash is the parent's text, and `/` is where nothing does: `parted`. So the path of this text is the parent
-- (`parent_path`), and the text is a path's, as the front of one (`parent_valid`).
use Rattle.std.proofs.Common.{◌≡◌, [], ◌∷◌, ◌++◌, Some, take, drop, length, sym, ap, ◌∙◌, arith}
use Rattle.std.proofs.lemmas.List.{take-append-drop}
use Rattle.std.proofs.lemmas.Grind.{common_steps}
use Rattle.zk_nodes.specs.Path.{path_of}
use Rattle.zk_nodes.proofs.PathLemmas.{IsPath-text, IsPath-names}
use Rattle.zk_nodes.proofs.PathTexts.{parted, parent_path, parent_valid, IsPath-root}
use Rattle.zk_nodes.proofs.path.Path.parent.Goals as goal

pub returns-then-cut-eq0-clause-text : goal.returns-then-cut-eq0-clause-text
returns-then-cut-eq0-clause-text g c =
    let is = c.as_str-text.ensures.path in
    let same : c.as_bytes.result.now ≡ c.args.self.now = c.as_bytes.ensures.value ∙ c.as_str-text.ensures.text in
    let more : length c.as_bytes.result.now ≡ 1 → ⊥ = λ e. c.if-text-eq1.false (sym c.as_bytes.ensures.len ∙ e) in
    let p =
    parted _ c.as_bytes.result.now c.last_slash-cut.result (IsPath-text c.args.self.now is ∙ sym same) (IsPath-names c.args.self.now is)
    more c.last_slash-cut.ensures.within c.last_slash-cut.ensures.slash c.last_slash-cut.ensures.last in
    p.0 c.if-cut-eq0.true

pub returns-clause-text : goal.returns-clause-text
returns-clause-text g c =
    let r : c.range.result.now ≡ take c.last_slash-cut.result c.as_str-text.result.now =
    grind (arith, common_steps, c.range.ensures.value) in
    let is = c.as_str-text.ensures.path in
    let same : c.as_bytes.result.now ≡ c.args.self.now = c.as_bytes.ensures.value ∙ c.as_str-text.ensures.text in
    let more : length c.as_bytes.result.now ≡ 1 → ⊥ = λ e. c.if-text-eq1.false (sym c.as_bytes.ensures.len ∙ e) in
    let p =
    parted _ c.as_bytes.result.now c.last_slash-cut.result (IsPath-text c.args.self.now is ∙ sym same) (IsPath-names c.args.self.now is)
    more c.last_slash-cut.ensures.within c.last_slash-cut.ensures.slash c.last_slash-cut.ensures.last in
    ap Some (r ∙ ap (take c.last_slash-cut.result) (sym c.as_bytes.ensures.value)) ∙ p.1 c.if-cut-eq0.false

pub returns-then-cut-eq0-clause-names : goal.returns-then-cut-eq0-clause-names
returns-then-cut-eq0-clause-names g c = parent_path (path_of c.args.self.now) (IsPath-names c.args.self.now c.as_str-text.ensures.path)
    (Some (47 ∷ [])) (returns-then-cut-eq0-clause-text g c)

pub returns-clause-names : goal.returns-clause-names
returns-clause-names g c = parent_path (path_of c.args.self.now) (IsPath-names c.args.self.now c.as_str-text.ensures.path)
    (Some c.range.result.now) (returns-clause-text g c)

pub returns-then-cut-eq0-clause-path : goal.returns-then-cut-eq0-clause-path
returns-then-cut-eq0-clause-path g c = IsPath-root

pub returns-clause-path : goal.returns-clause-path
returns-clause-path g c =
    let r : c.range.result.now ≡ take c.last_slash-cut.result c.as_str-text.result.now =
    grind (arith, common_steps, c.range.ensures.value) in
    let whole = sym c.as_str-text.ensures.text ∙ sym (take-append-drop c.last_slash-cut.result c.as_str-text.result.now)
    ∙ ap (λ t. t ++ drop c.last_slash-cut.result c.as_str-text.result.now) (sym r) in
    parent_valid c.args.self.now c.range.result.now
    (drop c.last_slash-cut.result c.as_str-text.result.now) c.as_str-text.ensures.path c.range.utf8 whole (returns-clause-text g c)
