-- `OrderedMap` as a type that may hold the type that holds it, by its values.
use Rattle.std.specs.Prelude.{◌≡◌, List, [], ◌∷◌, map, String, string_bytes}
use mathlib.Core.Path.{refl, sym, ap, subst, ◌∙◌}
use mathlib.Core.Logic.{◌⊎◌, inl, inr}
use mathlib.Core.Former.{Former, one_more, this, const, pair, or, list, via, children}
use denote.RattleType.{RattleType}
use denote.HoleLaws.{Alike}
use denote.HolePlaces.{Recodes, struct_places, enum_places, eachs, laid, stays}
use denote.Hole.Carrier.{listed}
use denote.Hole.Fix.{over}
use denote.Param.Weighed.{Weighed, most}
use denote.Model.Placed.{held, view_places}
use denote.Struct.Tuple.{Tuple, tuple_type}
use Rattle.std.specs.declared.alloc.Global.{Global}
use Rattle.std.specs.contracts.alloc.Global as heap
use Rattle.std.specs.contracts.impls.GlobalAllocator.TheImpl.{ghosts}
use Rattle.std.specs.contracts.string.String as string
use Rattle.std.specs.declared.cmp.Ord as ord'
use Rattle.std.specs.declared.cmp.PartialEq as eq'
use Rattle.std.specs.declared.cmp.PartialOrd as partial'
use Rattle.std.specs.contracts.impls.StringOrd.TheImpl as ord
use Rattle.std.specs.contracts.impls.StringPartialEq.TheImpl as eq
use Rattle.std.specs.contracts.impls.StringPartialOrd.TheImpl as partial
use Rattle.std.specs.formers.vec.Vec as vec
use Rattle.std_collections.specs.formers.btree_map.BTreeMap as btree
use Rattle.std_collections.specs.Layout.Former.{entry, on_value, entries_puts, values_listed, keys_on_values, entries_recoded}
use Rattle.std.specs.List.Sorted.{IsStrictlySortedBy, IsStrictlySortedBy-prop}
use Rattle.std.specs.Map.{keys_of, values_of}
use Rattle.cs_value.specs.Entries.{Name, compares, named, entries}
use Rattle.cs_value.specs.contracts.txt.Txt as txt
use Rattle.cs_value.specs.contracts.map.name.Name as stored_name
use Rattle.cs_value.specs.declared.map.stored.Stored.{Stored}
use Rattle.cs_value.specs.declared.map.stored.Stored.TheVariants.{Few, Many}
use Rattle.cs_value.specs.contracts.map.stored.Stored as P
use Rattle.cs_value.specs.declared.map.OrderedMap.TheInside.{Inside}
use Rattle.cs_value.specs.declared.map.OrderedMap.TheView.{view, invariant}
use Rattle.cs_value.specs.contracts.map.OrderedMap as C
use Rattle.cs_value.specs.contracts.map.OrderedMap.TheInside as I

abbrev pub the_former : Former {0} → Former {0}
the_former g = list (entry g Name)

abbrev pub the_weighed : {g : Former {0}} → Weighed g → Weighed (the_former g)
the_weighed w =
    record {
      weight = λ X μ es. most (w.weight X μ)
          (values_of es);
      puts = λ X μ es. entries_puts w Name X μ es;
    }

pub the_empty : List (Name × ⊥)
the_empty = []

abbrev pub the_items : (X : Type 0) → List (Name × X) → List X
the_items X es = values_of es

pub the_items_listed : (X : Type 0) (es : List (Name × X))
    → listed _ (children (the_former this) X es) ≡ the_items X es
the_items_listed X es = values_listed Name X es

abbrev few : Former {0}
few = vec.the_former (entry this Name) Global

abbrev many : Former {0}
many = btree.the_former this (String Global) Global

module _ {X : Type 0} where
  abbrev split : Stored X → few.Of X ⊎ many.Of X
  split (Few v) = inl v
  split (Many m) = inr m

  abbrev join : few.Of X ⊎ many.Of X → Stored X
  join (inl v) = Few v
  join (inr m) = Many m

  join-split : (p : Stored X) → join (split p) ≡ p
  join-split (Few v) = refl
  join-split (Many m) = refl

  split-join : (c : few.Of X ⊎ many.Of X) → split (join c) ≡ c
  split-join (inl v) = refl
  split-join (inr m) = refl

abbrev forms : Former {0}
forms = via (or few many) (λ X. Stored X) (λ X. split) (λ X. join) (λ X. join-split)
    (λ X. split-join)

abbrev fields : Former {0}
fields = via (pair forms (const Global)) Inside (λ X a. (a.stored, a.alloc))
    (λ X p. record { stored = p.0; alloc = p.1 }) (λ X a. refl) (λ X p. refl)

natural_tree : (X Y : Type 0) (h : X → Y) (es : List (String Global × X))
    → named (map (on_value h) es) ≡ map (on_value h) (named es)
natural_tree X Y h [] = refl
natural_tree X Y h (e ∷ es) = ap (λ l. (string_bytes e.0, h e.1) ∷ l) (natural_tree X Y h es)

keeps_tree : (X : Type 0) (es : List (String Global × X))
    → held (list (entry this Name)) X (named es) ≡ held (list (entry this (String Global))) X es
keeps_tree X [] = refl
keeps_tree X (e ∷ es) = λ i. (
  one_more (keeps_tree X es i).0,
  (e.1, (keeps_tree X es i).1),
)

natural : (X Y : Type 0) (h : X → Y) (p : Stored X)
    → entries (forms.map X Y h p) ≡ map (on_value h) (entries p)
natural X Y h (Few v) = refl
natural X Y h (Many m) = natural_tree X Y h m.entries

keeps : (X : Type 0) (p : Stored X) → held (the_former this) X (entries p) ≡ held forms X p
keeps X (Few v) = refl
keeps X (Many m) = keeps_tree X m.entries

abbrev name_row : RattleType
name_row = txt.the_row

abbrev string_row : RattleType
string_row = string.the_row heap.the_row ghosts

abbrev string_ord : ord'.Ghosts (String Global)
string_ord = ord.ghosts heap.the_row ghosts ord.no_dict ord.no_dict

abbrev string_eq : eq'.Ghosts (String Global)
string_eq = eq.ghosts heap.the_row ghosts eq.no_dict eq.no_dict

abbrev string_partial : partial'.Ghosts (String Global)
string_partial = partial.ghosts heap.the_row ghosts partial.no_dict partial.no_dict

abbrev pair_rows : RattleType → List RattleType
pair_rows R = stored_name.the_row ∷ R ∷ []

module _ (R S : RattleType) (h : R.Denot → S.Denot) where
  same_names : (p : Stored R.Denot)
      → keys_of (entries (forms.map R.Denot S.Denot h p)) ≡ keys_of (entries p)
  same_names p = ap keys_of (natural R.Denot S.Denot h p) ∙ keys_on_values h (entries p)

  pair_places : Alike R S h → Alike (Tuple (pair_rows R)) (Tuple (pair_rows S)) (on_value h)
  pair_places a =
      struct_places (tuple_type (pair_rows R)) (tuple_type (pair_rows S)) ((λ n. n), (h, tt))
      (on_value h) (λ d. refl) refl (stays stored_name.the_row, (laid _ _ _ a, tt))

  variant : (p : Stored R.Denot)
      → (P.enum S).as_values (forms.map R.Denot S.Denot h p)
      ≡ eachs (P.enum R).parts (P.enum S).parts
      ((vec.mapped (on_value h), tt), ((many.map R.Denot S.Denot h, tt), tt))
      ((P.enum R).as_values p)
  variant (Few v) = refl
  variant (Many m) = refl

  forms_places : Alike R S h → Alike (P.the_row R) (P.the_row S) (forms.map R.Denot S.Denot h)
  forms_places a =
      enum_places (P.enum R) (P.enum S)
      ((vec.mapped (on_value h), tt), ((many.map R.Denot S.Denot h, tt), tt))
      (forms.map R.Denot S.Denot h) variant refl (
        (
          laid _ _ _
              (vec.the_places heap.the_row ghosts (Tuple (pair_rows R)) (Tuple (pair_rows S))
              (on_value h) (pair_places a)),
          tt,
        ),
        (
          (
            laid _ _ _
                (btree.the_places string_row heap.the_row string_ord string_eq string_partial
                ghosts R S h a),
            tt,
          ),
          tt,
        ),
      )

  pub the_places : Alike R S h
      → Alike (C.the_row R) (C.the_row S) ((the_former this).map R.Denot S.Denot h)
  the_places a =
      view_places fields (the_former this) (λ X. view X) (λ X Y k u. natural X Y k u.stored)
      (λ X u. keeps X u.stored)
      R.Denot S.Denot h (C.the_row R).coded (C.the_row S).coded (invariant R.Denot)
      (invariant S.Denot)
      (λ u. IsStrictlySortedBy-prop compares _) (λ u. IsStrictlySortedBy-prop compares _)
      (λ u s. subst (IsStrictlySortedBy compares) (sym (same_names u.stored)) s)
      (λ u s. subst (IsStrictlySortedBy compares) (same_names u.stored) s)
      (over (I.the_row R)) (over (I.the_row S))
      (struct_places (I.the_type R) (I.the_type S) (forms.map R.Denot S.Denot h, (λ z. z, tt)) _
      (λ d. refl) refl (laid _ _ _ (forms_places a), ((refl, (λ n. refl, λ n. refl)), tt)))

  pub the_codes_placed : Recodes R S h
      → Recodes (C.the_row R) (C.the_row S) ((the_former this).map R.Denot S.Denot h)
  the_codes_placed e es = entries_recoded name_row R S h e es
