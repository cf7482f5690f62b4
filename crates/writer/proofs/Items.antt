-- Fields put one behind the other are the fields of the text that they spell. Assumes nothing.
use Rattle.std.proofs.Common.{◌≡◌, ℕ, ◌+◌, true, false, ◌&&◌, List, [], ◌∷◌, ◌++◌, map, length, take, drop, Option, sym, refl, ap, ◌∙◌, subst, append_assoc, append-nil, arith, length-append}
use lib.Seq.{drop-append-add, drop-append_seam}
use Rattle.std.proofs.lemmas.List.{take_at}
use Rattle.fields.specs.declared.headers.Tag.{Tag}
use Rattle.fields.specs.declared.headers.Qualifier.{Qualifier}
use Rattle.fields.specs.declared.walk.Field.{Field as TextField}
use Rattle.fields.specs.Characters.{digit, capital}
use Rattle.fields.specs.Fields.{second, after, value_in, spelled}
use Rattle.fields.specs.Laws.{colon_line, Keyed, Right, AllRight, Gapless, Told}

-- a field that has no place yet
pub record Item : Type 0 where
  pub tag : Tag
  pub qualifier : Option Qualifier
  pub value : List ℕ

abbrev pub head_of : Item → List ℕ
head_of i = 58 ∷ i.tag.0 ∷ i.tag.1 ∷ i.tag.2 ∷ 58 ∷ second i.qualifier

abbrev pub item_text : Item → List ℕ
item_text i = head_of i ++ (i.value ++ (13 ∷ 10 ∷ []))

abbrev pub items_text : List Item → List ℕ
items_text [] = []
items_text (i ∷ is) = item_text i ++ items_text is

-- the field at a place
abbrev pub field_at : ℕ → Item → TextField
field_at at i =
    record { start = at; tag = i.tag; qualifier = i.qualifier; value = at + (5 + length (second i.qualifier)); len = length i.value }

abbrev pub placed : ℕ → List Item → List TextField
placed at [] = []
placed at (i ∷ is) = field_at at i ∷ placed (after (field_at at i)) is

pub record RightItem (i : Item) : Type 0 where
  pub tag : (digit i.tag.0 && (digit i.tag.1 && capital i.tag.2)) ≡ true
  pub keyed : Keyed i.tag i.qualifier i.value
  pub single : colon_line i.value ≡ false

abbrev pub RightItems : List Item → Type 0
RightItems [] = Unit {0}
RightItems (i ∷ is) = RightItem i × RightItems is

-- what stands behind so many bytes
inner : (p h v t : List ℕ) → take (length v) (drop (length p + length h) (p ++ (h ++ (v ++ t)))) ≡ v
inner p h v t =
    ap (take (length v)) (drop-append-add p (h ++ (v ++ t)) (length h) ∙ drop-append_seam h (v ++ t)) ∙ take_at v t (length v) refl

pub value_at_lem : (p text rest : List ℕ) (i : Item) (at : ℕ) → at ≡ length p → text ≡ p ++ (item_text i ++ rest) → value_in text (field_at at i) ≡ i.value
value_at_lem p text rest i at z w =
    let n : at + (5 + length (second i.qualifier)) ≡ length p + length (head_of i) = omega arith in
    let e : text ≡ p ++ (head_of i ++ (i.value ++ ((13 ∷ 10 ∷ []) ++ rest))) =
    w ∙ ap (λ (x : List ℕ). p ++ x) (append_assoc (head_of i) (i.value ++ (13 ∷ 10 ∷ [])) rest
    ∙ ap (λ (x : List ℕ). head_of i ++ x) (append_assoc i.value (13 ∷ 10 ∷ []) rest)) in
    ap (λ (k : ℕ). take (length i.value) (drop k text)) n
    ∙ ap (λ (x : List ℕ). take (length i.value) (drop (length p + length (head_of i)) x)) e
    ∙ inner p (head_of i) i.value ((13 ∷ 10 ∷ []) ++ rest)

-- the next item stands behind one more text
pub next_place : (p : List ℕ) (i : Item) (at : ℕ) → at ≡ length p → after (field_at at i) ≡ length (p ++ item_text i)
next_place p i at z =
    let a = length-append p (item_text i) in
    let b = length-append (head_of i) (i.value ++ (13 ∷ 10 ∷ [])) in
    let c = length-append i.value (13 ∷ 10 ∷ []) in
    omega arith

pub next_text : (p text : List ℕ) (i : Item) (is : List Item) → text ≡ p ++ (item_text i ++ items_text is) → text ≡ (p ++ item_text i) ++ items_text is
next_text p text i is w = w ∙ sym (append_assoc p (item_text i) (items_text is))

right_at : (p text rest : List ℕ) (i : Item) (at : ℕ) → at ≡ length p → text ≡ p ++ (item_text i ++ rest) → RightItem i → Right text (field_at at i)
right_at p text rest i at z w r =
    let v = value_at_lem p text rest i at z w in
    record {
      tag = r.tag;
      keyed = subst (λ (x : List ℕ). Keyed i.tag i.qualifier x) (sym v) r.keyed;
      single = ap colon_line v ∙ r.single;
    }

all_right : (is : List Item) (p text : List ℕ) (at : ℕ) → at ≡ length p → text ≡ p ++ items_text is → RightItems is → AllRight text (placed at is)
all_right [] p text at z w r = tt
all_right (i ∷ is) p text at z w r = (
  right_at p text (items_text is) i at z w r.0,
  all_right is (p ++ item_text i) text (after (field_at at i)) (next_place p i at z) (next_text p text i is w) r.1,
)

all_spelled : (is : List Item) (p text : List ℕ) (at : ℕ) → at ≡ length p → text ≡ p ++ items_text is → spelled text (placed at is) ≡ items_text is
all_spelled [] p text at z w = refl
all_spelled (i ∷ is) p text at z w =
    ap (λ (v : List ℕ). (head_of i ++ (v ++ (13 ∷ 10 ∷ []))) ++ spelled text (placed (after (field_at at i)) is))
    (value_at_lem p text (items_text is) i at z w)
    ∙ ap (λ (x : List ℕ). item_text i ++ x)
    (all_spelled is (p ++ item_text i) text (after (field_at at i)) (next_place p i at z) (next_text p text i is w))

in_order : (is : List Item) (p text : List ℕ) (at : ℕ) → at ≡ length p → text ≡ p ++ items_text is → Gapless at (length text) (placed at is)
in_order [] p text at z w = z ∙ sym (ap length (w ∙ append-nil p))
in_order (i ∷ is) p text at z w = (
  refl,
  refl,
  in_order is (p ++ item_text i) text (after (field_at at i)) (next_place p i at z) (next_text p text i is w),
)

pub values_are : (is : List Item) (p text : List ℕ) (at : ℕ) → at ≡ length p → text ≡ p ++ items_text is
    → map (value_in text) (placed at is) ≡ map (λ i. i.value) is
values_are [] p text at z w = refl
values_are (i ∷ is) p text at z w =
    ap (λ (v : List ℕ). v ∷ map (value_in text) (placed (after (field_at at i)) is)) (value_at_lem p text (items_text is) i at z w)
    ∙ ap (λ (vs : List (List ℕ)). i.value ∷ vs)
    (values_are is (p ++ item_text i) text (after (field_at at i)) (next_place p i at z) (next_text p text i is w))

pub items_told : (is : List Item) → RightItems is → Told (items_text is) (placed 0 is)
items_told is r =
    record {
      right = all_right is [] (items_text is) 0 refl refl r;
      spelled_out = all_spelled is [] (items_text is) 0 refl refl;
      in_order = in_order is [] (items_text is) 0 refl refl;
    }
