-- The first key is the limit of a call, and none is before it: `first_some`. Where there is no key, no call has a limit: `first_none`.
use Rattle.std.proofs.Common.{◌<◌, ◌∙◌, sym, subst, arith}
use Rattle.std.specs.BTreeMap.{get}
use Rattle.std.specs.Ordering.{nat_cmp}
use Rattle.std.proofs.lemmas.Map.Keys.{le_from_not_gt}
use Rattle.zk_calls.specs.Orders.{calls_of}
use Rattle.zk_calls.proofs.Soonest.{first_some, first_none, is_some_of, none_of}
use Rattle.zk_calls.proofs.limits.Limits.first.Goals as goal

pub returns-in-Some : goal.returns-in-Some
returns-in-Some g c = λ entries are.
    let first = c.in-Some.limit.now in
    let some : 0 < calls_of (get nat_cmp c.args.self.now.more first) =
    subst (λ o. 0 < calls_of o) (sym c.in-Some.ensures.value) (omega arith) in
    first_some first entries (subst (λ n. 0 < n) (are first) some)
    (λ limit more. le_from_not_gt first limit
    (c.in-Some.ensures.least limit (is_some_of (get nat_cmp c.args.self.now.more limit) (subst (λ n. 0 < n) (sym (are limit)) more))))

pub returns-in-None : goal.returns-in-None
returns-in-None g c = λ entries are.
    first_none entries (λ limit. sym (are limit) ∙ none_of c.args.self.now.more limit c.first_key_value.result
    c.first_key_value.ensures.variant.1 c.in-None.is)
