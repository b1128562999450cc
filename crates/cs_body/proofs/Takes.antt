-- What an object has after some of its keys were taken.
use Rattle.std.proofs.Common.{◌≡◌, ℕ, List, [], ◌∷◌, Bool, true, false, true≢false, bytes_eq, refl, sym, ap, ◌∙◌}
use Rattle.std.proofs.lemmas.Bool.{or_parts}
use Rattle.std.proofs.lemmas.Slice.Eq.{bytes_eq-Decides}
use Rattle.cs_value.specs.Tree.{Pairs}
use Rattle.cs_value.specs.Pairs.{without}
use Rattle.cs_wire.specs.Commands.{is_among}
use Rattle.cs_wire.proofs.Asking.{find-left}
use Rattle.cs_body.specs.Taken.{KeepsAllBut}

pub keeps_all : (ps : Pairs) → KeepsAllBut [] ps ps
keeps_all ps k other = refl

pub keeps_more : (ks : List (List ℕ)) (l : List ℕ) (ps old new : Pairs) → KeepsAllBut ks ps old → new ≡ without l old → KeepsAllBut (l ∷ ks) ps new
keeps_more ks l ps old new keeps taken k other =
    let parts = or_parts (bytes_eq k l) (is_among k ks) other in
    find-left k l old new parts.0 taken ∙ keeps k parts.1

apart : (b : Bool) (k l : List ℕ) (ks : List (List ℕ)) → bytes_eq k l ≡ b → is_among k ks ≡ false → is_among l ks ≡ true → b ≡ false
apart true k l ks e other here =
    let one : k ≡ l = (bytes_eq-Decides k l).0 e in
    absurd (true≢false (sym here ∙ ap (λ x. is_among x ks) (sym one) ∙ other))
apart false k l ks e other here = refl

pub keeps_others : (ks : List (List ℕ)) (l : List ℕ) (old new : Pairs) → is_among l ks ≡ true → new ≡ without l old → KeepsAllBut ks old new
keeps_others ks l old new here taken k other =
    find-left k l old new (apart (bytes_eq k l) k l ks refl other here) taken

pub keeps_both : (ks : List (List ℕ)) (old mid new : Pairs) → KeepsAllBut ks old mid → KeepsAllBut ks mid new → KeepsAllBut ks old new
keeps_both ks old mid new one other k h = other k h ∙ one k h
