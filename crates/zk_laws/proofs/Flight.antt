-- What is between a client and its server: letters in flight to the client, requests that are not processed yet, and what
-- the client waits for.
use Rattle.zk_turns.specs.Past.{Asking, For_part, parts_asked}
use Rattle.zk_watches.specs.Lists.{Lists}
use Rattle.std.proofs.Common.{◌≡◌, ℕ, zero, suc, ◌+◌, ◌≤◌, ℤ, Bool, true, false, cond, List, [], ◌∷◌, ◌++◌, map, drop, length, refl, sym}
use Rattle.std.proofs.Common.{ap, subst, ◌∙◌, arith, append_assoc}
use Rattle.std.proofs.lemmas.List.{append-nil, drop-append-le}
use Rattle.zk_laws.specs.Messages.{Restore, from_zero}
use Rattle.zk_laws.proofs.Steps.{restores}
use Rattle.zk_laws.specs.Served.{Sent, part_requests}
use Rattle.zk_laws.proofs.Matching.{Owes, WaitsFor}

-- ---- requests

pub owes_append : (ss ts : List Sent) (ps qs : List Asking) → Owes ss ps → Owes ts qs → Owes (ss ++ ts) (ps ++ qs)
owes_append [] ts ps qs o p = subst (λ (l : List Asking). Owes ts (l ++ qs)) (sym o) p
owes_append (s ∷ ss) ts ps qs o p =
    (o.0, o.1 ++ qs, o.2, ap (λ l. l ++ qs) o.3 ∙ append_assoc o.0 o.1 qs, owes_append ss ts o.1 qs o.4 p)

pub owes_one : (s : Sent) (ps : List Asking) → WaitsFor s.xid s.request ps → Owes (s ∷ []) ps
owes_one s ps w = (ps, [], w, sym (append-nil ps), refl)

pub owes_parts : (z : ℤ) (parts : List Lists) → Owes (part_requests z parts) (parts_asked parts)
owes_parts z [] = refl
owes_parts z (part ∷ []) = (For_part true ∷ [], [], (refl, refl), refl, refl)
owes_parts z (part ∷ next ∷ more) =
    (For_part false ∷ [], parts_asked (next ∷ more), (refl, refl), refl, owes_parts z (next ∷ more))

pub requests_parts : (z : ℤ) (parts : List Lists) → map (λ s. s.request) (part_requests z parts) ≡ restores (from_zero z) parts
requests_parts z [] = refl
requests_parts z (part ∷ []) = refl
requests_parts z (part ∷ next ∷ more) = ap (λ l. Restore false (from_zero z) part ∷ l) (requests_parts z (next ∷ more))

-- one request more
pub unread_more : (n : ℕ) (xs ys : List Sent) → n ≤ length xs → drop n (xs ++ ys) ≡ drop n xs ++ ys
unread_more n xs ys le = drop-append-le n xs ys le

-- ---- what awaits its reply

-- one reply less
pub awaited_less : (talks : Bool) (n : ℕ) (xs : List Asking) (x : Asking) (more : List Asking)
    → cond talks (drop n xs) [] ≡ x ∷ more → cond talks (drop (suc n) xs) [] ≡ more
awaited_less false n xs x more e = absurd cc
awaited_less true zero [] x more e = absurd cc
awaited_less true zero (y ∷ xs) x more e = cc
awaited_less true (suc n) [] x more e = absurd cc
awaited_less true (suc n) (y ∷ xs) x more e = awaited_less true n xs x more e

-- one call more
pub awaited_more : (talks : Bool) (n : ℕ) (xs : List Asking) (x : Asking)
    → talks ≡ true → n ≤ length xs → cond talks (drop n (xs ++ x ∷ [])) [] ≡ cond talks (drop n xs) [] ++ x ∷ []
awaited_more true n xs x e le = drop-append-le n xs (x ∷ []) le
awaited_more false n xs x e le = absurd cc

-- one request less
pub drop_one : (n : ℕ) (xs : List Sent) (x : Sent) (more : List Sent)
    → drop n xs ≡ x ∷ more → (drop (n + 1) xs ≡ more) × (n + 1 ≤ length xs)
drop_one zero [] x more e = absurd cc
drop_one zero (y ∷ xs) x more e = (cc, omega arith)
drop_one (suc n) [] x more e = absurd cc
drop_one (suc n) (y ∷ xs) x more e =
    let r = drop_one n xs x more e in
    let le = r.1 in
    (ap (λ m. drop m (y ∷ xs)) (let f : suc n + 1 ≡ suc (n + 1) = omega arith in f) ∙ r.0, omega arith)
