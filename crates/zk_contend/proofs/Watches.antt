-- Which paths the calls of a contender watch.
use Rattle.std.proofs.Common.{ℕ, zero, suc, List, [], ◌∷◌, ◌≡◌, ◌∙◌, inl, inr, false, Option, Some, None, refl, sym, ap, subst, option_map}
use Rattle.std.proofs.Common.{slice_get}
use Rattle.zk_turns.specs.Meaning.{Among}
use Rattle.zk_nodes.specs.Path.{Text}
use Rattle.zk_turns.specs.View.{View}
use Rattle.zk_conversation.specs.Calls.{Call}
use Rattle.zk_contend.specs.declared.contender.LockContender.{LockContender}
use Rattle.zk_contend.specs.declared.place.Ask.{Ask}
use Rattle.zk_contend.specs.declared.place.Ask.TheVariants.{Make, Enter, Fence, Look, Clear, ReadOwn, List as ListsAgain, ReadBehind, Leave}
use Rattle.zk_contend.specs.declared.place.Place.{Place}
use Rattle.zk_contend.specs.declared.place.Place.TheVariants.{Making, Entering, Unsure, Looking, Clearing, At, Leaving, Left}
use Rattle.zk_contend.specs.Acls.{create_with}
use Rattle.zk_contend.specs.Contenders.{path_watched, IsUnwatched, WatchesOne}
use Rattle.zk_contend.specs.Dues.{acl_of, call_about, path_asked, path_or, WantsIn}
use Rattle.zk_contend.specs.Places.{shows_node}

-- a path at a place of a list is among them
pub at_place : (paths : List Text) (place : ℕ) (path : Text) → slice_get paths place ≡ Some path → Among path paths
at_place [] place path e = absurd cc
at_place (one ∷ paths) zero path e = let same : one ≡ path = cc in inl (sym same)
at_place (one ∷ paths) (suc place) path e = inr (at_place paths place path e)

-- one that it waits for is read
reads_behind : (view : View) (dir path : Text) (behind : List Text) (place : ℕ)
    → ((found : Text) × (slice_get behind place ≡ Some found) × (shows_node view found ≡ false))
    → Some (path_or dir (slice_get behind place)) ≡ Some path → Among path behind × (shows_node view path ≡ false)
reads_behind view dir path behind place wants e =
    let at : path_or dir (slice_get behind place) ≡ wants.0 = ap (path_or dir) wants.1 in
    let same : wants.0 ≡ path = cc in
    (at_place behind place path (wants.1 ∙ ap Some same), subst (λ (p : Text). shows_node view p ≡ false) same wants.2)

-- A create leaves no watch.
no_watch : (acl : Option (List ℕ)) (at : Text) (bytes : Option (List ℕ)) (flags : ℕ) (path : Text)
    → path_watched (create_with acl at bytes flags) ≡ Some path → ⊥
no_watch None at bytes flags path e = absurd cc
no_watch (Some acl) at bytes flags path e = absurd cc

unwatched : {A : Type 0} (view : View) (contender : LockContender A) (acl : Option (List ℕ)) (entry dir : Text)
    (bytes : Option (List ℕ)) (place : Place A) (ask : Ask) (path : Text) → WantsIn view contender place ask
    → path_watched (call_about acl entry bytes (path_asked dir place ask) ask) ≡ Some path → IsUnwatched view place path
unwatched view contender acl entry dir bytes (At own listing) ReadOwn path wants e = let same : own ≡ path = cc in inl (sym same, wants)
unwatched view contender acl entry dir bytes (At own None) (ReadBehind at) path wants e = absurd wants.1
unwatched view contender acl entry dir bytes (At own (Some listed)) (ReadBehind at) path wants e =
    let found = reads_behind view dir path listed.behind.items at wants.1 e in
    inr (listed, refl, found.0, found.1)
unwatched view contender acl entry dir bytes (Making above) ReadOwn path wants e = absurd wants
unwatched view contender acl entry dir bytes (Making above) (ReadBehind at) path wants e = absurd wants
unwatched view contender acl entry dir bytes Entering ReadOwn path wants e = absurd wants
unwatched view contender acl entry dir bytes Entering (ReadBehind at) path wants e = absurd wants
unwatched view contender acl entry dir bytes Unsure ReadOwn path wants e = absurd wants
unwatched view contender acl entry dir bytes Unsure (ReadBehind at) path wants e = absurd wants
unwatched view contender acl entry dir bytes (Looking answered) ReadOwn path wants e = absurd wants
unwatched view contender acl entry dir bytes (Looking answered) (ReadBehind at) path wants e = absurd wants
unwatched view contender acl entry dir bytes (Clearing leaving) ReadOwn path wants e = absurd wants
unwatched view contender acl entry dir bytes (Clearing leaving) (ReadBehind at) path wants e = absurd wants
unwatched view contender acl entry dir bytes (Leaving own) ReadOwn path wants e = absurd wants
unwatched view contender acl entry dir bytes (Leaving own) (ReadBehind at) path wants e = absurd wants
unwatched view contender acl entry dir bytes Left ReadOwn path wants e = absurd wants
unwatched view contender acl entry dir bytes Left (ReadBehind at) path wants e = absurd wants
unwatched view contender acl entry dir bytes place Make path wants e = absurd (no_watch acl (path_asked dir place Make) None 0 path e)
unwatched view contender acl entry dir bytes place Enter path wants e = absurd (no_watch acl entry bytes 3 path e)
unwatched view contender acl entry dir bytes place Fence path wants e = absurd (no_watch acl (path_asked dir place Fence) None 0 path e)
unwatched view contender acl entry dir bytes place Look path wants e = absurd cc
unwatched view contender acl entry dir bytes place Clear path wants e = absurd cc
unwatched view contender acl entry dir bytes place ListsAgain path wants e = absurd cc
unwatched view contender acl entry dir bytes place Leave path wants e = absurd cc

pub watches_one : {A : Type 0} → WatchesOne A
watches_one view now old new call path asked watches =
    unwatched view old (acl_of old) old.entry old.directory (option_map (λ v. v.items) old.data) old.place asked.0 path asked.1.3
    (subst (λ (c : Call). path_watched c ≡ Some path) asked.2 watches)
