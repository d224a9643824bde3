-- Those that were looked at still are (`in_left`), and so are those that the report is about (`picked`).
use Rattle.std.proofs.Common.{◌≡◌, subst, sym, true}
use Rattle.zk_contend.specs.Collections.{is_in}
use Rattle.zk_contend.specs.Contenders.{is_about}
use Rattle.zk_contend.specs.inner.Stirred.{about}
use Rattle.zk_contend.proofs.Stirring.{in_left, in_right, picked, then_too}
use Rattle.zk_contend.proofs.collection.Contenders.note.Goals as goal

pub returns-clause-stirs : goal.returns-clause-stirs
returns-clause-stirs g c =
    let path = c.args.path.now in
    let all = c.args.self.now.all.entries in
    let awake = c.args.self.now.stirred.awake.items in
    let untold = c.args.self.now.stirred.untold.items in
    let its = c.in_ok-add_about.ensures in
    record {
      awake = λ ticket there. subst (λ l. is_in ticket l ≡ true) (sym its.awake) (in_left ticket awake (about path all) there);
      untold = λ ticket there. subst (λ l. is_in ticket l ≡ true) (sym its.untold) (in_left ticket untold (about path all) there);
      awake_now = λ ticket. then_too (is_about path) _ (is_in ticket (about path all)) _
          (λ there. subst (λ l. is_in ticket l ≡ true) (sym its.awake) (in_right ticket awake (about path all) there))
          (picked (is_about path) ticket all);
      untold_now = λ ticket. then_too (is_about path) _ (is_in ticket (about path all)) _
          (λ there. subst (λ l. is_in ticket l ≡ true) (sym its.untold) (in_right ticket untold (about path all) there))
          (picked (is_about path) ticket all);
    }
