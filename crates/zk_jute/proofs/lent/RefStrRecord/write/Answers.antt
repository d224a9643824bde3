-- What was written fits its layout: its length by what `write_contents` ensures, and UTF-8 because it is a `str`.
use Rattle.std.proofs.lemmas.Str.{is_utf8-from_IsUtf8}
use Rattle.zk_jute.proofs.lent.RefStrRecord.write.Goals as goal

pub returns-clause-fits : goal.returns-clause-fits
returns-clause-fits g c =
    let len = rw c.as_bytes.ensures.value at c.in_ok-write_contents.ensures.fits in
    let utf8 = rw c.as_bytes.ensures.value at c.as_bytes.ensures.utf8 in
    (len, is_utf8-from_IsUtf8 _ utf8)
