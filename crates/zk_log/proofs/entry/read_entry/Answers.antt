-- By what is found: a fault of the header (`front_fails_of`), a number that is no operation's (`unknown_of`), a fault of the fields
-- (`body_fails_of`), or an entry, if its digest can be read (`whole_of`). The header's numbers fit, so they stay themselves.
use Rattle.std.proofs.Common.{sym}
use Rattle.std.specs.Int.{w32}
use Rattle.std.proofs.lemmas.Int.{to_z-of_z}
use Rattle.zk_log.specs.Views.{entry_of, digest_of}
use Rattle.zk_log.proofs.EntryLaws.{front_fails_of, body_fails_of, whole_of, unknown_of, front_fits}
use Rattle.zk_log.proofs.entry.read_entry.Goals as goal

pub returns-in_err-front : goal.returns-in_err-front
returns-in_err-front g c = record {
  gives = front_fails_of entry_of _ _ _ _ _ c.from_residual.ensures.1 c.new-at.ensures.len c.new-at.ensures.left
      c.in_err-front.ensures.gives;
}

pub returns-in-None : goal.returns-in-None
returns-in-None g c =
    let fits = front_fits _ _ _ c.new-at.result.bytes c.in_ok-front.ensures.gives in
    let number = to_z-of_z w32 c.in_ok-front.front.number fits.1.1.1.1 in
    record {
      gives = λ other. unknown_of _ _ _ _ _ _ _ c.at.result c.new-at.ensures.len c.new-at.ensures.left c.in_ok-front.ensures.gives number
          c.rest.ensures c.at.ensures c.in-None.is;
    }

pub returns-in_err-txn-in-Some : goal.returns-in_err-txn-in-Some
returns-in_err-txn-in-Some g c =
    let fits = front_fits _ _ _ c.new-at.result.bytes c.in_ok-front.ensures.gives in
    let number = to_z-of_z w32 c.in_ok-front.front.number fits.1.1.1.1 in
    record {
      gives = body_fails_of entry_of _ _ _ _ _ _ _ _ c.at.result _ _ _ c.from_residual-in_err-txn-in-Some.ensures.1 c.new-at.ensures.len
          c.new-at.ensures.left c.in_ok-front.ensures.gives number c.rest.ensures c.at.ensures c.in-Some.is c.in_ok-front.ensures.len
          c.in_err-txn-in-Some.ensures.gives;
    }

pub returns-in_ok-txn-in-Some : goal.returns-in_ok-txn-in-Some
returns-in_ok-txn-in-Some g c =
    let fits = front_fits _ _ _ c.new-at.result.bytes c.in_ok-front.ensures.gives in
    let number = to_z-of_z w32 c.in_ok-front.front.number fits.1.1.1.1 in
    record {
      gives = whole_of entry_of (λ e. e.digest) digest_of _ _ _ _ _ _ _ _ _ _ c.at.result _ _ _ _ c.whole_entry.result c.new-at.ensures.len
          c.new-at.ensures.left c.in_ok-front.ensures.gives number c.rest.ensures c.at.ensures c.in-Some.is c.in_ok-txn-in-Some.ensures.same
          c.in_ok-front.ensures.len c.in_ok-txn-in-Some.ensures.gives c.in_ok-txn-in-Some.ensures.len c.read_digest.ensures.gives
          c.whole_entry.ensures.ok c.whole_entry.ensures.err;
    }
