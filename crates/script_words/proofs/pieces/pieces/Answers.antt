-- A separator ends a piece (`separator_step`), and another byte goes on with it (`other_step`); at first it is empty: `front_nil`.
use Rattle.std.proofs.Common.{arith, ◌++◌, ◌∙◌, ap, map, eq-eqb, ne_eqb}
use Rattle.std.proofs.lemmas.List.{map_push}
use Rattle.script_words.proofs.PiecesLemmas.{front_nil, separator_step, other_step}
use Rattle.script_words.proofs.pieces.pieces.Goals as goal
use Rattle.script_words.proofs.pieces.pieces.Goals.{then-byte-separator+in_ok-push, else-byte-separator}

pub loop-at-init : goal.loop-at-init
loop-at-init g c = (omega arith, rw c.new-pieces.ensures.items (front_nil c.args.separator c.args.text.now))

pub loop-at-preserved : goal.loop-at-preserved
loop-at-preserved g c = elim c.if-byte-separator.branch [
  | then-byte-separator+in_ok-push w ↦
      rw (w.start-is, w.pieces-is, w.in_ok-push.ensures.items, map_push) (
        omega arith,
        separator_step c.args.separator c.loop-at.start c.loop-at.at c.args.text.now (map (λ p. p.now) c.loop-at.pieces.items)
            c.loop-at.invariant.0 (omega arith) (eq-eqb _ _ w.if-byte-separator.true) ∙ c.loop-at.invariant.1,
      )
  | else-byte-separator w ↦
      rw (w.start-is, w.pieces-is) (
        omega arith,
        ap (λ x. map (λ p. p.now) c.loop-at.pieces.items ++ x) (other_step c.args.separator c.loop-at.start c.loop-at.at
            c.args.text.now c.loop-at.invariant.0 (omega arith) (ne_eqb _ _ w.if-byte-separator.false)) ∙ c.loop-at.invariant.1,
      )
]
