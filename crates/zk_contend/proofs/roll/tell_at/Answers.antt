-- What is told of one, and whether it is there still: `told_of`.
use Rattle.std.proofs.Common.{◌∙◌, ◌++◌, ap, nat_eq, refl, sym}
use Rattle.std.proofs.lemmas.List.{append-nil}
use Rattle.indexmap.specs.IndexMap.{get}
use Rattle.zk_client.specs.Clients.{view_of}
use Rattle.zk_contend.specs.Collections.{news_at}
use Rattle.zk_contend.proofs.Told.{told_of}
use Rattle.zk_contend.proofs.roll.tell_at.Goals as goal

pub returns-in_ok-push : goal.returns-in_ok-push
returns-in_ok-push g c =
    let news = c.args.news.now.items in
    told_of (view_of c.args.client.now) c.args.ticket (get nat_eq c.args.all.now) (get nat_eq c.tell_one-told.new.all)
    (get nat_eq c.drop_left.new.all) news c.push.new.self.items
    (get nat_eq c.args.all.now c.args.ticket) c.tell_one-told.result refl c.tell_one-told.ensures c.drop_left.ensures
    (c.in_ok-push.ensures.items ∙ ap (λ r. news ++ news_at c.args.ticket r) (sym c.in-Some.is))

pub returns-in_default : goal.returns-in_default
returns-in_default g c =
    let news = c.args.news.now.items in
    told_of (view_of c.args.client.now) c.args.ticket (get nat_eq c.args.all.now) (get nat_eq c.tell_one-told.new.all)
    (get nat_eq c.drop_left.new.all) news news
    (get nat_eq c.args.all.now c.args.ticket) c.tell_one-told.result refl c.tell_one-told.ensures c.drop_left.ensures
    (sym (append-nil news) ∙ ap (λ r. news ++ news_at c.args.ticket r) (sym c.in_default.is))
