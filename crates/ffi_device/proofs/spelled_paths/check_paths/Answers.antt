-- Each text read is a path (`read_path`) or is none (`read_fault`), and what is left gets `shorter`. Where no text begins what is left, the
-- bytes spell no texts: `read_no_more`.
use Rattle.std.proofs.Common.{◌≡◌, [], refl, rules, subst, sym, true}
use Rattle.zk_jute.specs.Cursor.{bytes_left}
use Rattle.ffi_device.proofs.ReadTexts.{Read, read_fault, read_no_more, read_none, read_path}
use Rattle.ffi_device.proofs.Spelled.{shorter}
use Rattle.ffi_device.proofs.spelled_paths.check_paths.Goals as goal

pub loop-at-init : goal.loop-at-init
loop-at-init c = subst (λ rest. Read c.args.spelled.now rest true) (sym c.new-at.ensures.left) (read_none c.args.spelled.now)

pub returns-in-None-clause-refused : goal.returns-in-None-clause-refused
returns-in-None-clause-refused c =
    let some : (bytes_left c.loop-at.at ≡ []) → ⊥ = search rules in
    read_no_more c.args.spelled.now (bytes_left c.loop-at.at) c.loop-at.are_paths c.loop-at.invariant some (c.in-None.ensures.none refl)

pub loop-at-smaller-then-is_path : goal.loop-at-smaller-then-is_path
loop-at-smaller-then-is_path c =
    shorter c.in-Some.text.now (bytes_left c.loop-at.at) (bytes_left c.next_text.new.at) c.in-Some.ensures.some.1

pub loop-at-preserved-then-is_path : goal.loop-at-preserved-then-is_path
loop-at-preserved-then-is_path c =
    read_path c.args.spelled.now (bytes_left c.loop-at.at)
    (bytes_left c.next_text.new.at) c.in-Some.text.now c.loop-at.are_paths c.loop-at.invariant
    c.in-Some.ensures.some.0 c.in-Some.ensures.some.1 (c.is_path.ensures.path c.if-is_path.true)

pub loop-at-smaller : goal.loop-at-smaller
loop-at-smaller c = shorter c.in-Some.text.now (bytes_left c.loop-at.at) (bytes_left c.next_text.new.at) c.in-Some.ensures.some.1

pub loop-at-preserved : goal.loop-at-preserved
loop-at-preserved c =
    read_fault c.args.spelled.now (bytes_left c.loop-at.at)
    (bytes_left c.next_text.new.at) c.in-Some.text.now c.loop-at.are_paths c.is_path.result c.loop-at.invariant
    c.in-Some.ensures.some.0 c.in-Some.ensures.some.1 c.if-is_path.false (c.is_path.ensures.fault c.if-is_path.false)
