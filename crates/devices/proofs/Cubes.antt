-- The files of cubes, gone through one by one.
use Rattle.std.proofs.Common.{◌≡◌, ℕ, ◌<◌, Bool, true, false, List, length, Option, Some, None, sym, ap, subst, refl, ◌∙◌}
use Rattle.std.specs.Prelude.{IfSome, IsTrue, ◌↔◌, slice_index_or, String, string_bytes}
use Rattle.std.specs.List.{All}
use Rattle.devices.specs.Files.{Places, AreOneFile, IsApart, IsLoss}
use Rattle.devices.specs.declared.names.FileNames.{FileNames}
use Rattle.devices.specs.declared.names.CallFile.{CallFile}
use Rattle.devices.specs.declared.names.CallFile.TheVariants as file
use Rattle.devices.specs.declared.names.FileFault.TheVariants as fault

-- where it is told where names lead, this file is not that of the name
abbrev pub IsOther : {A : Type 0} → Option Places → Option (List ℕ) → String A → Type 0
IsOther {A} told name cube = IfSome told (λ places. ¬ AreOneFile places (Some (string_bytes cube)) name)

pub is_other : {A : Type 0} (told : Option Places) (name : Option (List ℕ)) (cube : String A) (bytes : List ℕ) (one : Bool)
    → bytes ≡ string_bytes cube → one ≡ false → IfSome told (λ places. IsTrue one ↔ AreOneFile places (Some bytes) name)
    → IsOther told name cube
is_other None name cube bytes one e other h = tt
is_other (Some places) name cube bytes one e other h = λ same.
    let same_true : one ≡ true = h.1 (subst (λ (b : List ℕ). AreOneFile places (Some b) name) (sym e) same) in cc

pub are_apart : {A : Type 0} (told : Option Places) (name : Option (List ℕ)) (cubes : List (String A))
    → All (IsOther told name) cubes → IfSome told (λ places. IsApart places cubes name)
are_apart None name cubes h = tt
are_apart (Some places) name cubes h = h

pub is_found : {A : Type 0} (told : Option Places) (name : Option (List ℕ)) (cubes : List (String A)) (k : ℕ) (cube : String A)
    (bytes : List ℕ) (one : Bool) → k < length cubes → cube ≡ slice_index_or cubes k cube → bytes ≡ string_bytes cube
    → one ≡ true → IfSome told (λ places. IsTrue one ↔ AreOneFile places (Some bytes) name)
    → IfSome told (λ places. ¬ IsApart places cubes name)
is_found None name cubes k cube bytes one within at e same h = tt
is_found (Some places) name cubes k cube bytes one within at e same h = λ apart.
    apart k cube within (subst (λ (b : List ℕ). AreOneFile places (Some b) name) (e ∙ ap string_bytes at) (h.0 same))

pub is_loss : (told : Option Places) (names : FileNames) (output : CallFile) (name : Option (List ℕ))
    → IfSome told (λ places. ¬ IsApart places names.cubes.now name)
    → IfSome told (λ places. IsLoss places names output name (fault.Same file.Cube output))
is_loss None names output name h = tt
is_loss (Some places) names output name h = (refl, h)
