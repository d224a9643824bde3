-- It is unsure where no standing is shown and no rival is before the node: the clauses `none` of `Standing::of` and of `predecessor`.
use Rattle.std.proofs.Common.{ℤ, refl, subst}
use Rattle.zk_client.specs.Clients.{view_of}
use Rattle.zk_conclusions.specs.Kinds.{kind_of}
use Rattle.zk_conclusions.specs.Standings.{ShowsStanding}
use Rattle.ffi_device.proofs.standings.stands_by.Goals as goal

pub returns-in-None-predecessor : goal.returns-in-None-predecessor
returns-in-None-predecessor c =
    let listing = c.args.listing.now in (
      record {
        unshown = subst (λ path. (token : ℤ) → ShowsStanding (view_of c.args.client.now) listing.directory.now (kind_of c.args.kind.now)
            listing.names.now listing.zxid path token → ⊥) c.requires (c.in-None.ensures.none refl);
        first = c.in-None-predecessor.ensures.none refl;
      },
      refl,
    )
