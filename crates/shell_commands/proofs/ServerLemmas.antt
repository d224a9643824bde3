-- What words ask for, other words that are the same ask for too.
use Rattle.std.proofs.Common.{◌≡◌, subst, ℕ, List, Option}
use Rattle.zk_link.specs.FarEnds.{FarEnd}
use Rattle.clap.specs.Words.{Text}
use Rattle.shell_commands.specs.Run.{IsCutOff, IsDone, IsFaulty, IsNeverConnected, IsRefusal, IsUndoneBy, IsWhole}
use Rattle.shell_commands.specs.declared.status.Status.{Status}

pub done_at : (far : FarEnd) (files : Text → Option (List ℕ)) (input : Option (List ℕ)) (text : List ℕ) (words others : List Text)
    → words ≡ others → IsDone far words files input text → IsDone far others files input text
done_at far files input text words others same = subst (λ ws. IsDone far ws files input text) same

pub faulty_at : (input : Option (List ℕ)) (text told : List ℕ) (words others : List Text)
    → words ≡ others → IsFaulty words input text told → IsFaulty others input text told
faulty_at input text told words others same = subst (λ ws. IsFaulty ws input text told) same

pub refusal_at : (told : List ℕ) (words others : List Text) → words ≡ others → IsRefusal words told → IsRefusal others told
refusal_at told words others same = subst (λ ws. IsRefusal ws told) same

pub undone_at : (far : FarEnd) (files : Text → Option (List ℕ)) (input : Option (List ℕ)) (status : Status) (told : List ℕ)
    (words others : List Text) → words ≡ others → IsUndoneBy far words files input status told
    → IsUndoneBy far others files input status told
undone_at far files input status told words others same = subst (λ ws. IsUndoneBy far ws files input status told) same

pub never_at : (far : FarEnd) (text : List ℕ) (words others : List Text)
    → words ≡ others → IsNeverConnected far words text → IsNeverConnected far others text
never_at far text words others same = subst (λ ws. IsNeverConnected far ws text) same

pub cut_off_at : (far : FarEnd) (text told : List ℕ) (words others : List Text)
    → words ≡ others → IsCutOff far words text told → IsCutOff far others text told
cut_off_at far text told words others same = subst (λ ws. IsCutOff far ws text told) same

pub whole_at : (far : FarEnd) (input : Option (List ℕ)) (text : List ℕ) (words others : List Text)
    → words ≡ others → IsWhole far words input text → IsWhole far others input text
whole_at far input text words others same = subst (λ ws. IsWhole far ws input text) same
