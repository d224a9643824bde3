-- Another answer than a listing, or a read of the one before it, is about the place: `about_place`.
use Rattle.zk_contend.proofs.Wishes.{about_place}
use Rattle.zk_contend.proofs.contender.LockContender.take_in.Goals as goal

pub hear_of_place-requires : goal.hear_of_place-requires
hear_of_place-requires g c = about_place c.args.ask c.in_default.not-List c.in_default.not-ReadBehind
