-- What contracts of private functions say: nobody has to believe it.
use Rattle.std.specs.Prelude.{⊤, ℕ, zero, suc, ℤ, negsuc, List}
use Rattle.ffi_device.specs.Texts.{AreNoTexts, SpellsNoPath}

-- bytes for texts: -2, and -11 if no texts are spelled so
abbrev pub RefusesTexts : (spelled : List ℕ) → ℤ → Type 0
RefusesTexts spelled (negsuc (suc zero)) = ⊤
RefusesTexts spelled (negsuc (suc (suc (suc (suc (suc (suc (suc (suc (suc (suc zero))))))))))) = AreNoTexts spelled
RefusesTexts spelled code = ⊥

-- bytes for paths: -5 if one of the texts is no path, and -11 if no texts are spelled so
abbrev pub RefusesPaths : (spelled : List ℕ) → ℤ → Type 0
RefusesPaths spelled (negsuc (suc (suc (suc (suc zero))))) = SpellsNoPath spelled
RefusesPaths spelled (negsuc (suc (suc (suc (suc (suc (suc (suc (suc (suc (suc zero))))))))))) = AreNoTexts spelled
RefusesPaths spelled code = ⊥
