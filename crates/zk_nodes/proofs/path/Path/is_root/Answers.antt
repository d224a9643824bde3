-- A path's text with one byte is the root's (`root_alone`), and the root's text has one byte (`root_text`).
use Rattle.std.proofs.Common.{◌≡◌, length, sym, ap, ◌∙◌, arith}
use Rattle.std.proofs.lemmas.Bool.Decides.{nat_tests}
use Rattle.zk_nodes.proofs.PathTexts.{root_alone, root_text}
use Rattle.zk_nodes.proofs.path.Path.is_root.Goals as goal

pub returns-clause-root : goal.returns-clause-root
returns-clause-root g c = (
  λ e.
      let one : length c.args.self.now ≡ 1 = sym (ap length c.as_str.ensures.text) ∙ grind (arith, nat_tests, e) in
      (root_alone c.args.self.now c.as_str.ensures.path one).0,
  λ e.
      let one : length c.as_str.result.now ≡ 1 = ap length (c.as_str.ensures.text ∙ root_text c.args.self.now c.as_str.ensures.path e) in
      grind (arith, nat_tests, one),
)
