-- What is done to files in two parts, or not at all.
use Rattle.std.proofs.Common.{List, [], ◌++◌, Option, Some, None, option_map, refl, sym, ap, ◌∙◌, append_assoc, append-nil}
use Rattle.devices.specs.Files.{Act, AddsActs}

pub adds_nothing : (a : Option (List Act)) → AddsActs a [] a
adds_nothing None = refl
adds_nothing (Some d) = ap (λ (acts : List Act). Some acts) (sym (append-nil d))

pub adds_both : (a b c : Option (List Act)) (xs ys : List Act) → AddsActs a xs b → AddsActs b ys c → AddsActs a (xs ++ ys) c
adds_both None b c xs ys one other = other ∙ ap (option_map (λ (done : List Act). done ++ ys)) one
adds_both (Some d) b c xs ys one other =
    other ∙ (ap (option_map (λ (done : List Act). done ++ ys)) one ∙ ap (λ (acts : List Act). Some acts) (append_assoc d xs ys))
