-- Texts that are read one after the other, and whether each of them is a path: what was read so far and the bytes left are all bytes.
use Rattle.std.proofs.Common.{◌≡◌, ◌≢◌, ◌++◌, ◌∙◌, Bool, true, false, ℕ, List, [], ◌∷◌, IsSome, ap, append_assoc, inl, inr, refl, sym}
use Rattle.std.proofs.Common.{true≢false}
use Rattle.std.proofs.lemmas.List.{flat_map_more}
use Rattle.std.specs.List.{AllByRecursion, flat_map}
use Rattle.zk_nodes.specs.PathFault.{IsPath, fault_of}
use Rattle.zk_turns.specs.Meaning.{Among}
use Rattle.ffi_device.specs.Texts.{AreNoTexts}
use Rattle.ffi_device.proofs.Spelled.{FitText, no_more, spelled}

-- one of the texts is no path
pub record HasFault (texts : List (List ℕ)) : Type 0 where
  pub text : List ℕ
  pub among : Among text texts
  pub fault : IsSome (fault_of text)

-- these texts were read of the bytes, and this is left
pub record Read (bytes rest : List ℕ) (are_paths : Bool) : Type 0 where
  pub done : List (List ℕ)
  pub fits : AllByRecursion FitText done
  pub whole : bytes ≡ flat_map spelled done ++ rest
  pub fine : are_paths ≡ true → AllByRecursion IsPath done
  pub faulty : are_paths ≡ false → HasFault done

all_more : {X : Type 0} (P : X → Type 0) (xs : List X) (x : X) → AllByRecursion P xs → P x → AllByRecursion P (xs ++ x ∷ [])
all_more P [] x all is = (is, tt)
all_more P (y ∷ ys) x all is = (all.0, all_more P ys x all.1 is)

among_more : {X : Type 0} (x : X) (ys : List X) (y : X) → Among x ys → Among x (ys ++ y ∷ [])
among_more x [] y is = absurd is
among_more x (z ∷ zs) y (inl is) = inl is
among_more x (z ∷ zs) y (inr is) = inr (among_more x zs y is)

among_last : {X : Type 0} (x : X) (ys : List X) → Among x (ys ++ x ∷ [])
among_last x [] = inl refl
among_last x (y ∷ ys) = inr (among_last x ys)

-- nothing was read
pub read_none : (bytes : List ℕ) → Read bytes bytes true
read_none bytes = record { done = []; fits = tt; whole = refl; fine = λ _. tt; faulty = λ e. absurd (true≢false e) }

-- what was read with one more text
more : (bytes before after text : List ℕ) (done : List (List ℕ)) → bytes ≡ flat_map spelled done ++ before → before ≡ spelled text ++ after
    → bytes ≡ flat_map spelled (done ++ text ∷ []) ++ after
more bytes before after text done whole e =
    whole ∙ ap (λ rest. flat_map spelled done ++ rest) e ∙ sym (append_assoc (flat_map spelled done) (spelled text) after)
    ∙ ap (λ front. front ++ after) (flat_map_more spelled [] done text)

-- one more text was read, which is a path
pub read_path : (bytes before after text : List ℕ) (are : Bool)
    → Read bytes before are → FitText text → before ≡ spelled text ++ after → IsPath text → Read bytes after are
read_path bytes before after text are read fit e path = record {
  done = read.done ++ text ∷ [];
  fits = all_more FitText read.done text read.fits fit;
  whole = more bytes before after text read.done read.whole e;
  fine = λ all. all_more IsPath read.done text (read.fine all) path;
  faulty = λ none. let has = read.faulty none in
      record { text = has.text; among = among_more has.text read.done text has.among; fault = has.fault };
}

-- one more text was read, which is none
pub read_fault : (bytes before after text : List ℕ) (are is : Bool)
    → Read bytes before are → FitText text → before ≡ spelled text ++ after → is ≡ false → IsSome (fault_of text)
    → Read bytes after is
read_fault bytes before after text are is read fit e none fault = record {
  done = read.done ++ text ∷ [];
  fits = all_more FitText read.done text read.fits fit;
  whole = more bytes before after text read.done read.whole e;
  fine = λ all. absurd (true≢false (sym all ∙ none));
  faulty = λ _. record { text = text; among = among_last text read.done; fault = fault };
}

-- where no text begins what is left, no texts are spelled so
pub read_no_more : (bytes rest : List ℕ) (are : Bool)
    → Read bytes rest are → rest ≢ [] → ((text after : List ℕ) → FitText text → rest ≡ spelled text ++ after → ⊥)
    → AreNoTexts bytes
read_no_more bytes rest are read some none texts is = no_more rest some none read.done texts read.fits is.fits (sym read.whole ∙ is.is)
