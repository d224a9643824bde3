-- The client says nothing, and only its moment is another one (`is_ticked`): so all stays that is known of the subjects, which are quiet.
use Rattle.std.proofs.Common.{◌≡◌, ◌++◌, [], map, sym, subst}
use Rattle.std.specs.Prelude.{All}
use Rattle.std.specs.List.{flat_map}
use Rattle.zk_turns.specs.View.{View}
use Rattle.zk_client.specs.Clients.{view_of}
use Rattle.zk_client.specs.Views.{said}
use Rattle.zk_follow.specs.Following.{news_in, ticked, told_of, AreFollowed, AreQuietBut, AreStillBut, IsCounted}
use Rattle.zk_follow.specs.Owning.{AreOwn}
use Rattle.zk_follow.proofs.Breaking.{within}
use Rattle.zk_follow.proofs.Passing.{is_ticked, quiet_followed, quiet_news, quiet_steps, quiet_told}
use Rattle.zk_follow.proofs.follower.Follower.pass.Goals as goal

pub invariant_of-self : goal.invariant_of-self
invariant_of-self g c =
    let old = c.args.self.now in
    let items = old.subjects.items in
    let is = is_ticked c.args.now (view_of old.client) (said c.tick_into.new.outputs.items) (view_of c.tick_into.new.self) c.requires.due
    c.in-Ok.ensures.rule in
    record {
      counted = subst (λ after. All (IsCounted after) items) (sym is) old.counted;
      found = old.found;
      still = subst (λ after. AreStillBut after old.index.count items old.awake.items) (sym is) old.still;
      rest = subst (λ after. AreQuietBut after old.index.count items (old.awake.items ++ old.waiting.items)) (sym is) old.rest;
      own = λ going. subst (λ (after : View). AreOwn items after.pending) (sym is) (old.own going);
    }

pub returns-clause-steps : goal.returns-clause-steps
returns-clause-steps g c =
    quiet_steps c.args.now (view_of c.args.self.now.client) (said c.tick_into.new.outputs.items) (view_of c.tick_into.new.self)
    c.args.self.now.subjects.items c.requires.due c.requires.quiet c.in-Ok.ensures.rule

pub returns-clause-followed : goal.returns-clause-followed
returns-clause-followed g c =
    let view = view_of c.args.self.now.client in
    let items = c.args.self.now.subjects.items in
    subst (λ after. AreFollowed c.args.now after items) (sym (is_ticked c.args.now view (said c.tick_into.new.outputs.items)
    (view_of c.tick_into.new.self) c.requires.due c.in-Ok.ensures.rule))
    (quiet_followed c.args.now (ticked c.args.now view) items c.requires.quiet)

pub returns-clause-told : goal.returns-clause-told
returns-clause-told g c =
    let view = view_of c.args.self.now.client in
    let items = c.args.self.now.subjects.items in
    subst (λ after. map (told_of after) items ≡ items) (sym (is_ticked c.args.now view (said c.tick_into.new.outputs.items)
    (view_of c.tick_into.new.self) c.requires.due c.in-Ok.ensures.rule))
    (quiet_told (ticked c.args.now view) items c.requires.quiet)

pub returns-clause-news : goal.returns-clause-news
returns-clause-news g c =
    let view = view_of c.args.self.now.client in
    let items = c.args.self.now.subjects.items in
    subst (λ after. flat_map (news_in after []) items ≡ []) (sym (is_ticked c.args.now view (said c.tick_into.new.outputs.items)
    (view_of c.tick_into.new.self) c.requires.due c.in-Ok.ensures.rule))
    (quiet_news (ticked c.args.now view) items c.requires.quiet)

pub returns-clause-view : goal.returns-clause-view
returns-clause-view g c =
    is_ticked c.args.now (view_of c.args.self.now.client) (said c.tick_into.new.outputs.items) (view_of c.tick_into.new.self)
    c.requires.due c.in-Ok.ensures.rule

pub returns-in_default-clause-broke : goal.returns-in_default-clause-broke
returns-in_default-clause-broke g c = within (view_of c.args.self.now.client) (view_of c.tick_into.new.self) c.in_default.ensures.halt
