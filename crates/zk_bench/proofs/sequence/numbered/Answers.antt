-- The text is the path with ten digits (`numbered_as`), and so the path made (`path_told-path`), or that of no path (`no_path`).
use Rattle.std.proofs.Common.{ap, ◌∙◌, ◌≡◌, ◌++◌, ◌^◌, ◌-◌}
use Rattle.std.specs.Fmt.{styled_decimal, format_spec}
use Rattle.zk_nodes.specs.Path.{path_of}
use Rattle.zk_bench.specs.inner.Writing.{creates_below}
use Rattle.zk_bench.proofs.Written.{numbered_as, no_path, path_told-path}
use Rattle.zk_bench.proofs.sequence.numbered.Goals as goal

pub returns-in_err-path-clause-none : goal.returns-in_err-path-clause-none
returns-in_err-path-clause-none g c =
    let total = creates_below (path_of c.args.parent.now) c.args.history.now.transactions in
    let number = c.creates_below-number.result in
    let written : c.as_str-2.result.now ≡ c.args.path.now ++ styled_decimal (format_spec 32 0 4 10 (2 ^ 64 - 1)) number =
    c.as_str-2.ensures.value ∙ c.in_ok-text.ensures.ok ∙ ap (λ t. t ++ styled_decimal c.laid_out.result number) c.as_str.ensures.text
    ∙ ap (λ form. c.args.path.now ++ styled_decimal form number) c.laid_out.ensures in
    let is = numbered_as c.args.path.now total number c.as_str-2.result.now c.creates_below-number.ensures
    c.if-number-gt-LAST_NUMBER.false written in
    no_path c.from_residual-in_err-path.result c.as_str-2.result.now c.in_err-path.field-0.0 _ is c.from_residual-in_err-path.ensures.1
    c.in_err-path.ensures.refused

pub returns-clause-made : goal.returns-clause-made
returns-clause-made g c =
    let total = creates_below (path_of c.args.parent.now) c.args.history.now.transactions in
    let number = c.creates_below-number.result in
    let written : c.as_str-2.result.now ≡ c.args.path.now ++ styled_decimal (format_spec 32 0 4 10 (2 ^ 64 - 1)) number =
    c.as_str-2.ensures.value ∙ c.in_ok-text.ensures.ok ∙ ap (λ t. t ++ styled_decimal c.laid_out.result number) c.as_str.ensures.text
    ∙ ap (λ form. c.args.path.now ++ styled_decimal form number) c.laid_out.ensures in
    numbered_as c.args.path.now total number c.as_str-2.result.now c.creates_below-number.ensures c.if-number-gt-LAST_NUMBER.false written
    ∙ path_told-path c.as_str-2.result.now c.in_ok-path.path c.in_ok-path.ensures.accepted c.in_ok-path.ensures.path
