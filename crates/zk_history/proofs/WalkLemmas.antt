-- What one more change does to the history at each path: a replay is a walk over the transactions, and a change or a transaction more is
-- one step more at its end.
use Rattle.std.proofs.Common.{◌≡◌, ℕ, ℤ, Bool, true, false, cond, leb, List, [], ◌∷◌}
use Rattle.std.proofs.Common.{◌++◌, Option, refl, sym, ap, ◌∙◌}
use Rattle.zk_nodes.specs.Path.{NodePath}
use Rattle.zk_nodes.specs.History.{Node, Tree, Change, Transaction, apply_all, after}
use Rattle.zk_nodes.specs.Names.{Names}
use Rattle.zk_history.specs.inner.Replay.{node_after, node_after_all, node_at}
use Rattle.zk_history.specs.Replay.{count_after, count_after_all, count_at, children_after}
use Rattle.zk_history.specs.Replay.{children_after_all, children_at}
use Rattle.zk_history.specs.HistoryView.{made_transaction, last_with}
use Rattle.zk_history.specs.inner.Versions.{last_transaction}
use Rattle.zk_history.proofs.TreeLemmas.{apply_all-node}

-- any walk over transactions

abbrev walk_all : {S : Type 0} → (ℕ → ℤ → Change → S → S) → ℕ → ℤ → List Change → S → S
walk_all step z t [] s = s
walk_all step z t (c ∷ cs) s = walk_all step z t cs (step z t c s)

abbrev walk : {S : Type 0} → (ℕ → ℤ → Change → S → S) → ℕ → List Transaction → S → S
walk step z [] s = s
walk step z (one ∷ more) s = walk step z more (cond (leb one.zxid z) (walk_all step one.zxid one.time one.changes s) s)

walk_all-push : {S : Type 0} (step : ℕ → ℤ → Change → S → S) (z : ℕ) (t : ℤ) (cs : List Change) (c : Change) (s : S)
    → walk_all step z t (cs ++ c ∷ []) s ≡ step z t c (walk_all step z t cs s)
walk_all-push step z t [] c s = refl
walk_all-push step z t (x ∷ cs) c s = walk_all-push step z t cs c (step z t x s)

walk-push : {S : Type 0} (step : ℕ → ℤ → Change → S → S) (z : ℕ) (ts : List Transaction) (one : Transaction) (s : S)
    → walk step z (ts ++ one ∷ []) s ≡ cond (leb one.zxid z)
    (walk_all step one.zxid one.time one.changes (walk step z ts s)) (walk step z ts s)
walk-push step z [] one s = refl
walk-push step z (a ∷ ts) one s = walk-push step z ts one (cond (leb a.zxid z) (walk_all step a.zxid a.time a.changes s) s)

walk-change : {S : Type 0} (step : ℕ → ℤ → Change → S → S) (z : ℕ) (a : Transaction) (ts : List Transaction) (c : Change) (s : S)
    → walk step z (last_with (a ∷ ts) c) s ≡ cond (leb (last_transaction (a ∷ ts)).zxid z)
    (step (last_transaction (a ∷ ts)).zxid (last_transaction (a ∷ ts)).time c (walk step z (a ∷ ts) s)) (walk step z (a ∷ ts) s)
walk-change step z a [] c s =
    ap (λ x. cond (leb a.zxid z) x s) (walk_all-push step a.zxid a.time a.changes c s)
    ∙ elim (leb a.zxid z) as (λ b. cond b (step a.zxid a.time c (walk_all step a.zxid a.time a.changes s)) s
    ≡ cond b (step a.zxid a.time c (cond b (walk_all step a.zxid a.time a.changes s) s))
    (cond b (walk_all step a.zxid a.time a.changes s) s)) [ true ↦ refl | false ↦ refl ]
walk-change step z a (b ∷ ts) c s = walk-change step z b ts c (cond (leb a.zxid z) (walk_all step a.zxid a.time a.changes s) s)

-- what goes over changes, and over transactions, by a step is such a walk
all-walk : {S : Type 0} (step : ℕ → ℤ → Change → S → S) (z : ℕ) (t : ℤ) (all : List Change → S → S) → ((s : S) → all [] s ≡ s)
    → ((c : Change) (cs : List Change) (s : S) → all (c ∷ cs) s ≡ all cs (step z t c s))
    → (cs : List Change) (s : S) → all cs s ≡ walk_all step z t cs s
all-walk step z t all none one [] s = none s
all-walk step z t all none one (c ∷ cs) s = one c cs s ∙ all-walk step z t all none one cs (step z t c s)

at-walk : {S : Type 0} (step : ℕ → ℤ → Change → S → S) (z : ℕ) (all : ℕ → ℤ → List Change → S → S) (at : List Transaction → S → S)
    → ((x : ℕ) (t : ℤ) (cs : List Change) (s : S) → all x t cs s ≡ walk_all step x t cs s) → ((s : S) → at [] s ≡ s)
    → ((a : Transaction) (ts : List Transaction) (s : S) → at (a ∷ ts) s ≡ at ts (cond (leb a.zxid z) (all a.zxid a.time a.changes s) s))
    → (ts : List Transaction) (s : S) → at ts s ≡ walk step z ts s
at-walk step z all at alls none one [] s = none s
at-walk step z all at alls none one (a ∷ ts) s =
    one a ts s ∙ at-walk step z all at alls none one ts (cond (leb a.zxid z) (all a.zxid a.time a.changes s) s)
    ∙ ap (λ h. walk step z ts (cond (leb a.zxid z) h s)) (alls a.zxid a.time a.changes s)

-- a node, the number of children, and their names are such walks
abbrev step_node : NodePath → ℕ → ℤ → Change → Option Node → Option Node
step_node p z t c x = node_after z t p c x

abbrev step_count : NodePath → ℕ → ℤ → Change → ℕ → ℕ
step_count p z t c x = count_after p c x

abbrev step_names : NodePath → ℕ → ℤ → Change → Names → Names
step_names p z t c x = children_after p c x

node-walk : (p : NodePath) (z : ℕ) (ts : List Transaction) (x : Option Node) → node_at z p ts x ≡ walk (step_node p) z ts x
node-walk p z = at-walk (step_node p) z (λ z t. node_after_all z t p) (node_at z p)
    (λ z t. all-walk (step_node p) z t (node_after_all z t p) (λ x. refl) (λ c cs x. refl)) (λ x. refl) (λ a ts x. refl)

count-walk : (p : NodePath) (z : ℕ) (ts : List Transaction) (x : ℕ) → count_at z p ts x ≡ walk (step_count p) z ts x
count-walk p z = at-walk (step_count p) z (λ z t. count_after_all p) (count_at z p)
    (λ z t. all-walk (step_count p) z t (count_after_all p) (λ x. refl) (λ c cs x. refl)) (λ x. refl) (λ a ts x. refl)

names-walk : (p : NodePath) (z : ℕ) (ts : List Transaction) (x : Names) → children_at z p ts x ≡ walk (step_names p) z ts x
names-walk p z = at-walk (step_names p) z (λ z t. children_after_all p) (children_at z p)
    (λ z t. all-walk (step_names p) z t (children_after_all p) (λ x. refl) (λ c cs x. refl)) (λ x. refl) (λ a ts x. refl)

pub same_either : {S : Type 0} (b : Bool) (s : S) → cond b s s ≡ s
same_either true s = refl
same_either false s = refl

-- one change more in the last transaction
change-walk : {S : Type 0} (step : ℕ → ℤ → Change → S → S) (z : ℕ) (at : List Transaction → S → S)
    → ((ts : List Transaction) (s : S) → at ts s ≡ walk step z ts s) → (ts : List Transaction) (c : Change) (s : S) → (ts ≡ [] → ⊥)
    → at (last_with ts c) s
    ≡ cond (leb (last_transaction ts).zxid z) (step (last_transaction ts).zxid (last_transaction ts).time c (at ts s)) (at ts s)
change-walk step z at is [] c s some = absurd (some refl)
change-walk step z at is (a ∷ ts) c s some =
    is (last_with (a ∷ ts) c) s ∙ walk-change step z a ts c s
    ∙ ap (λ h. cond (leb (last_transaction (a ∷ ts)).zxid z) (step (last_transaction (a ∷ ts)).zxid (last_transaction (a ∷ ts)).time c h) h)
    (sym (is (a ∷ ts) s))

pub node-change : (z : ℕ) (p : NodePath) (ts : List Transaction) (c : Change) (held : Option Node) → (ts ≡ [] → ⊥)
    → node_at z p (last_with ts c) held ≡ cond (leb (last_transaction ts).zxid z)
    (node_after (last_transaction ts).zxid (last_transaction ts).time p c (node_at z p ts held)) (node_at z p ts held)
node-change z p ts c held some = change-walk (step_node p) z (node_at z p) (node-walk p z) ts c held some

pub count-change : (z : ℕ) (p : NodePath) (ts : List Transaction) (c : Change) (n : ℕ) → (ts ≡ [] → ⊥)
    → count_at z p (last_with ts c) n ≡ cond (leb (last_transaction ts).zxid z) (count_after p c (count_at z p ts n)) (count_at z p ts n)
count-change z p ts c n some = change-walk (step_count p) z (count_at z p) (count-walk p z) ts c n some

pub names-change : (z : ℕ) (p : NodePath) (ts : List Transaction) (c : Change) (names : Names) → (ts ≡ [] → ⊥)
    → children_at z p (last_with ts c) names
    ≡ cond (leb (last_transaction ts).zxid z) (children_after p c (children_at z p ts names)) (children_at z p ts names)
names-change z p ts c names some = change-walk (step_names p) z (children_at z p) (names-walk p z) ts c names some

-- one transaction more
push-walk : {S : Type 0} (step : ℕ → ℤ → Change → S → S) (z : ℕ) (at : List Transaction → S → S)
    → ((ts : List Transaction) (s : S) → at ts s ≡ walk step z ts s) → (ts : List Transaction) (one : Transaction) (s : S)
    → at (ts ++ one ∷ []) s ≡ cond (leb one.zxid z) (walk_all step one.zxid one.time one.changes (at ts s)) (at ts s)
push-walk step z at is ts one s = is (ts ++ one ∷ []) s ∙ walk-push step z ts one s
    ∙ ap (λ h. cond (leb one.zxid z) (walk_all step one.zxid one.time one.changes h) h) (sym (is ts s))

-- with no change
pub node-empty : (z : ℕ) (p : NodePath) (ts : List Transaction) (zxid : ℕ) (t : ℤ) (held : Option Node)
    → node_at z p (ts ++ made_transaction zxid t [] ∷ []) held ≡ node_at z p ts held
node-empty z p ts zxid t held = push-walk (step_node p) z (node_at z p) (node-walk p z) ts (made_transaction zxid t []) held
    ∙ same_either (leb zxid z) (node_at z p ts held)

pub count-empty : (z : ℕ) (p : NodePath) (ts : List Transaction) (zxid : ℕ) (t : ℤ) (n : ℕ)
    → count_at z p (ts ++ made_transaction zxid t [] ∷ []) n ≡ count_at z p ts n
count-empty z p ts zxid t n = push-walk (step_count p) z (count_at z p) (count-walk p z) ts (made_transaction zxid t []) n
    ∙ same_either (leb zxid z) (count_at z p ts n)

pub names-empty : (z : ℕ) (p : NodePath) (ts : List Transaction) (zxid : ℕ) (t : ℤ) (names : Names)
    → children_at z p (ts ++ made_transaction zxid t [] ∷ []) names ≡ children_at z p ts names
names-empty z p ts zxid t names = push-walk (step_names p) z (children_at z p) (names-walk p z) ts (made_transaction zxid t []) names
    ∙ same_either (leb zxid z) (children_at z p ts names)

-- one node of the first tree more
pub names-node : (p : NodePath) (ts : List Transaction) (t : ℤ) (c : Change) (names : Names)
    → children_at 0 p (ts ++ made_transaction 0 t (c ∷ []) ∷ []) names ≡ children_after p c (children_at 0 p ts names)
names-node p ts t c names = push-walk (step_names p) 0 (children_at 0 p) (names-walk p 0) ts (made_transaction 0 t (c ∷ [])) names

pub count-node : (p : NodePath) (ts : List Transaction) (t : ℤ) (c : Change) (n : ℕ)
    → count_at 0 p (ts ++ made_transaction 0 t (c ∷ []) ∷ []) n ≡ count_after p c (count_at 0 p ts n)
count-node p ts t c n = push-walk (step_count p) 0 (count_at 0 p) (count-walk p 0) ts (made_transaction 0 t (c ∷ [])) n

after-push : (ts : List Transaction) (one : Transaction) (tree : Tree)
    → after (ts ++ one ∷ []) tree ≡ apply_all one.zxid one.time one.changes (after ts tree)
after-push [] one tree = refl
after-push (a ∷ ts) one tree = after-push ts one (apply_all a.zxid a.time a.changes tree)

pub first-node : (p : NodePath) (ts : List Transaction) (t : ℤ) (c : Change) (tree : Tree)
    → after (ts ++ made_transaction 0 t (c ∷ []) ∷ []) tree p ≡ node_after 0 t p c (after ts tree p)
first-node p ts t c tree =
    ap (λ (x : Tree). x p) (after-push ts (made_transaction 0 t (c ∷ [])) tree) ∙ apply_all-node 0 t (c ∷ []) (after ts tree) p

-- where changes stand
