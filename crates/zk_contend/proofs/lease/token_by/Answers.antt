-- What is shown of the kind of its family, and of as many as may hold at once, beside no name of another family: `stands_among`.
use Rattle.std.proofs.Common.{◌≡◌, ◌∙◌, ℤ, [], arith, w64, refl, sym, subst, true≢false}
use Rattle.std.proofs.lemmas.Int.{ints}
use mir.Val.{to_z, of_z}
use Rattle.zk_client.specs.Clients.{view_of}
use Rattle.zk_conclusions.specs.Kinds.{kind_of}
use Rattle.zk_conclusions.specs.Standings.{ShowsStanding}
use Rattle.zk_contend.specs.Leases.{StandsBy}
use Rattle.zk_contend.proofs.Leasing.{before_never, lease_by, stands_alone, stands_among, unnamed_never}
use Rattle.zk_contend.proofs.lease.token_by.Goals as goal

pub returns-in_err-own-clause-none : goal.returns-in_err-own-clause-none
returns-in_err-own-clause-none g c e token stands =
    unnamed_never (view_of c.args.client.now) c.args.listing.now.directory.now c.args.naming c.args.listing.now.names.now
    c.args.listing.now.zxid c.args.path.now token c.in_err-own.ensures stands

pub returns-then-are_before-clause-none : goal.returns-then-are_before-clause-none
returns-then-are_before-clause-none g c e token stands =
    before_never (view_of c.args.client.now) c.args.listing.now.directory.now c.args.naming c.args.listing.now.names.now
    c.args.listing.now.zxid c.args.path.now token (kind_of c.kind-kind.result) c.most.result c.in_ok-own.own.now c.kind-kind.ensures
    c.most.ensures c.in_ok-own.ensures (c.are_before.ensures.yes c.if-are_before.true) stands

pub returns-then-is_mixed-clause-none : goal.returns-then-is_mixed-clause-none
returns-then-is_mixed-clause-none g c e token stands = true≢false (sym c.if-is_mixed.true ∙ c.is_mixed.ensures ∙ stands.unmixed)

pub returns-in_err-standing-clause-none : goal.returns-in_err-standing-clause-none
returns-in_err-standing-clause-none g c e token stands =
    let view = view_of c.args.client.now in
    let dir = c.args.listing.now.directory.now in
    let names = c.args.listing.now.names.now in
    let zxid = c.args.listing.now.zxid in
    let path = c.args.path.now in
    let kind = kind_of c.kind-kind.result in
    c.in_err-standing.ensures.none refl token
    (stands_alone view dir kind c.most.result names zxid path token
    (lease_by view dir c.args.naming names zxid path token kind c.most.result c.in_ok-own.own.now c.kind-kind.ensures c.most.ensures
    c.in_ok-own.ensures stands))

pub returns-clause-shows : goal.returns-clause-shows
returns-clause-shows g c =
    let view = view_of c.args.client.now in
    let dir = c.args.listing.now.directory.now in
    let names = c.args.listing.now.names.now in
    let zxid = c.args.listing.now.zxid in
    let path = c.args.path.now in
    let kind = kind_of c.kind-kind.result in
    let its : to_z w64 (of_z w64 c.token.result) ≡ c.token.result = omega (arith, ints) in
    subst (λ (z : ℤ). StandsBy view dir c.args.naming names zxid path z) (sym its)
    (stands_among view dir c.args.naming names zxid path c.token.result kind c.most.result c.in_ok-own.own.now c.kind-kind.ensures
    c.most.ensures c.in_ok-own.ensures (sym c.is_mixed.ensures ∙ c.if-is_mixed.false) (c.are_before.ensures.no c.if-are_before.false)
    (subst (λ (z : ℤ). ShowsStanding view dir (record { own = kind.own; against = [] }) names zxid path z) (sym c.token.ensures)
    c.in_ok-standing.ensures.shows))
