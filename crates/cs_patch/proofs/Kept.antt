-- A patch leaves the attributes that only the store writes, and the document an object.
use Rattle.std.proofs.Common.{◌≡◌, ℕ, List, [], ◌∷◌, ◌++◌, map, Bool, true, false, cond, Some, None, bytes_eq, refl, sym, ap, ◌∙◌}
use Rattle.std.proofs.lemmas.Slice.Eq.{bytes_eq-Decides}
use Rattle.std.specs.List.{list_any}
use Rattle.std.proofs.lemmas.Bool.{false_from_ne_true}
use Rattle.cs_value.specs.Tree.{Tree, null, boolean, integer, text, list, object}
use Rattle.cs_value.specs.Pairs.{attribute}
use Rattle.cs_value.specs.Words.{is_object, field}
use Rattle.cs_jsonmatch.specs.Places.{Location}
use Rattle.cs_jsonmatch.specs.declared.places.Part.{Part}
use Rattle.cs_jsonmatch.specs.declared.places.Part.TheVariants.{Name, Pos}
use Rattle.cs_alter.specs.Within.{update, changed, removed, drop_member, given, object_pairs}
use Rattle.cs_alter.specs.Inserted.{Side, insert_into}
use Rattle.cs_patch.specs.Operations.{immutable, fixed, fixed_at}
use Rattle.cs_jsonmatch.specs.Path.{Step}
use Rattle.cs_patch.proofs.Fixed.{other-put, other-without, other-update}
use Rattle.cs_alter.proofs.Gifts.{found_in}

-- An object stays one, and has the same under each fixed name.
pub record Keeps (v w : Tree) : Type 0 where
  pub object : is_object v ≡ true → is_object w ≡ true
  pub same : (n : List ℕ) → list_any (bytes_eq n) fixed ≡ true → attribute n w ≡ attribute n v

pub keeps : (v : Tree) → Keeps v v
keeps v = record { object = λ h. h; same = λ n h. refl }

pub keeps_on : (u v w : Tree) → Keeps u v → Keeps v w → Keeps u w
keeps_on u v w a b = record {
  object = λ h. b.object (a.object h);
  same = λ n h. b.same n h ∙ a.same n h;
}

clash : (b : Bool) → b ≡ true → b ≡ false → ⊥
clash true g h = cc
clash false g h = cc

-- a name that is not fixed is none of the fixed ones
free : (m n : List ℕ) → list_any (bytes_eq m) fixed ≡ true → list_any (bytes_eq n) fixed ≡ false
    → bytes_eq m n ≡ false
free m n h g =
    false_from_ne_true (bytes_eq m n) (λ e.
    let same : m ≡ n = (bytes_eq-Decides m n).0 e in
    clash (list_any (bytes_eq n) fixed) (ap (λ k. list_any (bytes_eq k) fixed) (sym same) ∙ h) g)

not_fixed : (b : Bool) (n : List ℕ) → cond b (Some (immutable n)) None ≡ None → b ≡ false
not_fixed true n h = cc
not_fixed false n h = refl

pub update-keeps : (x : Part) (l : Location) (f : Tree → Tree) (v : Tree)
    → fixed_at (x ∷ l) ≡ None → Keeps v (update x f v)
update-keeps (Name n) l f (object ps) h = record {
  object = λ g. refl;
  same = λ m g. other-update m n f ps (free m n g (not_fixed (list_any (bytes_eq n) fixed) n h));
}
update-keeps (Name n) l f null h = keeps null
update-keeps (Name n) l f (boolean b) h = keeps (boolean b)
update-keeps (Name n) l f (integer m) h = keeps (integer m)
update-keeps (Name n) l f (text s) h = keeps (text s)
update-keeps (Name n) l f (list ts) h = keeps (list ts)
update-keeps (Pos k) l f null h = keeps null
update-keeps (Pos k) l f (boolean b) h = keeps (boolean b)
update-keeps (Pos k) l f (integer m) h = keeps (integer m)
update-keeps (Pos k) l f (text s) h = keeps (text s)
update-keeps (Pos k) l f (list ts) h = record { object = λ g. g; same = λ m g. refl }
update-keeps (Pos k) l f (object ps) h = keeps (object ps)

drop-keeps : (x : Part) (l : Location) (v : Tree) → fixed_at (x ∷ l) ≡ None → Keeps v
    (drop_member x v)
drop-keeps (Name n) l (object ps) h = record {
  object = λ g. refl;
  same = λ m g. other-without m n ps (free m n g (not_fixed (list_any (bytes_eq n) fixed) n h));
}
drop-keeps (Name n) l null h = keeps null
drop-keeps (Name n) l (boolean b) h = keeps (boolean b)
drop-keeps (Name n) l (integer m) h = keeps (integer m)
drop-keeps (Name n) l (text s) h = keeps (text s)
drop-keeps (Name n) l (list ts) h = keeps (list ts)
drop-keeps (Pos k) l null h = keeps null
drop-keeps (Pos k) l (boolean b) h = keeps (boolean b)
drop-keeps (Pos k) l (integer m) h = keeps (integer m)
drop-keeps (Pos k) l (text s) h = keeps (text s)
drop-keeps (Pos k) l (list ts) h = record { object = λ g. g; same = λ m g. refl }
drop-keeps (Pos k) l (object ps) h = keeps (object ps)

-- whether a location is another one than that of the value itself
abbrev pub is_below : Location → Bool
is_below [] = false
is_below (x ∷ l) = true

pub changed-keeps : (l m : Location) (f : Tree → Tree) (v : Tree)
    → is_below l ≡ true → fixed_at (l ++ m) ≡ None → Keeps v (changed l f v)
changed-keeps [] m f v b h = cc
changed-keeps (x ∷ l) m f v b h = update-keeps x (l ++ m) (changed l f) v h

pub removed-keeps : (l m : Location) (v : Tree)
    → is_below l ≡ true → fixed_at (l ++ m) ≡ None → Keeps v (removed l v)
removed-keeps [] m v b h = cc
removed-keeps (x ∷ []) m v b h = drop-keeps x m v h
removed-keeps (x ∷ y ∷ l) m v b h = update-keeps x (y ∷ l ++ m) (removed (y ∷ l)) v h

given-keeps : (n : List ℕ) (ns : List (List ℕ)) (new v : Tree)
    → fixed_at (Name n ∷ map Name ns) ≡ None → Keeps v (given (n ∷ ns) new v)
given-keeps n ns new v h = record {
  object = λ g. refl;
  same = λ m g.
      other-put m n (given ns new (field n v)) (object_pairs v)
      (free m n g (not_fixed (list_any (bytes_eq n) fixed) n h))
      ∙ found_in m v;
}

-- what `set` does at a place from which names lead on
pub set-keeps : (l : Location) (ns : List (List ℕ)) (new v : Tree)
    → is_below (l ++ map Name ns) ≡ true → fixed_at (l ++ map Name ns) ≡ None
    → Keeps v (changed l (given ns new) v)
set-keeps [] [] new v b h = cc
set-keeps [] (n ∷ ns) new v b h = given-keeps n ns new v h
set-keeps (x ∷ l) ns new v b h = changed-keeps (x ∷ l) (map Name ns) (given ns new) v refl h

insert-keeps : (side : Side) (s : Step) (items : List Tree) (v : Tree)
    → Keeps v (insert_into side s items v)
insert-keeps side s items null = keeps null
insert-keeps side s items (boolean b) = keeps (boolean b)
insert-keeps side s items (integer m) = keeps (integer m)
insert-keeps side s items (text t) = keeps (text t)
insert-keeps side s items (list ts) = record { object = λ g. g; same = λ m g. refl }
insert-keeps side s items (object ps) = keeps (object ps)

-- what `insert` does at a parent, which may be the document itself
pub inserted-keeps : (l m : Location) (side : Side) (s : Step) (items : List Tree) (v : Tree)
    → fixed_at (l ++ m) ≡ None → Keeps v (changed l (insert_into side s items) v)
inserted-keeps [] m side s items v h = insert-keeps side s items v
inserted-keeps (x ∷ l) m side s items v h =
    changed-keeps (x ∷ l) m (insert_into side s items) v refl h
