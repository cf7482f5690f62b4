-- The rights identifiers of a table, as a search for the next finds them. Assumes nothing.
use Rattle.std.proofs.Common.{◌≡◌, ℕ, Bool, true, false, cond, eqb, List, [], ◌∷◌, length, Some, None, Option, IsSome, Iter, sym, refl, ap, ◌∙◌, subst, arith}
use Rattle.std.proofs.lemmas.Bool.{false≢true}
use Rattle.std.proofs.lemmas.Option.{MatchOption-at_some, MatchOption-at_none}
use Rattle.std.specs.Borrow.{Bor}
use Rattle.std.specs.Fn.{Called, Mut}
use Rattle.std.specs.Iterator.{Yields}
use Rattle.std.specs.Iterator.Adapters.{filter_map_source, filter_map_callee, filter_map_steps}
use Rattle.std.specs.List.{FoldsTo}
use Rattle.std.specs.Option.{MatchOption, option_map}
use Rattle.std.specs.Slice.Iter.{iter_rest, iter_steps}
use Rattle.std.specs.declared.iter.FilterMap.{FilterMap}
use Rattle.reader.specs.declared.table.Entry.{Entry}
use Rattle.message.specs.declared.instruction.Rights.{Rights}
use Rattle.message.specs.Instructions.{RightsText, rights_of}
use Rattle.message.specs.Instructing.{before, rights_among, rights_of_value, rights_of_entry, all_rights, single, rights_in}
use Rattle.message.specs.Values.{value_at, values_of}

first_entry : (text : List ℕ) (e : Entry) (es : List Entry) → all_rights text (e ∷ es) ≡ before (rights_of_entry text e) (all_rights text es)
first_entry text e es = by (eqb e.row 19)
  where
    by : (b : Bool) → rights_among (cond b (value_at text e ∷ values_of text es 19) (values_of text es 19))
        ≡ before (cond b (rights_of_value (value_at text e)) None) (all_rights text es)
    by true = refl
    by false = refl

nothing_left : (text : List ℕ) (es : List Entry) → length es ≡ 0 → all_rights text es ≡ []
nothing_left text [] e = refl
nothing_left text (x ∷ es) e = absurd (omega arith)

-- what a call of the closure says of its entry
abbrev pub Tells : {F : Type 0} → List ℕ → Mut F (Bor Entry × Unit {0}) (Option Rights) → F → Type 0
Tells {F} text g f =
    (x : Bor Entry) (r : Option Rights) (q : F) → Called g f (x, tt) r q → (q ≡ f) × (option_map rights_of r ≡ rights_of_entry text x.now)

module _ {F : Type 0} (text : List ℕ) (g : Mut F (Bor Entry × Unit {0}) (Option Rights)) (f : F) (tells : Tells text g f) where
  -- the rights identifiers of what the search has left
  abbrev left : Iter Entry → List RightsText
  left s = all_rights text (iter_rest s)

  one : (s t : Iter Entry) (x : Bor Entry) (r : Option Rights) → iter_rest s ≡ x.now ∷ iter_rest t → option_map rights_of r ≡ rights_of_entry text x.now
      → left s ≡ before (option_map rights_of r) (left t)
  one s t x r p e = ap (all_rights text) p ∙ first_entry text x.now (iter_rest t) ∙ ap (λ (o : Option RightsText). before o (left t)) (sym e)

  -- the entries that have none are passed over
  passed : (xs : List (Bor Entry)) (s t : Iter Entry) (q : F) → Yields iter_steps s xs t → FoldsTo (λ p x q. Called g p (x, tt) None q) f xs q
      → (q ≡ f) × (left s ≡ left t)
  passed [] s t q y h = (sym h, ap left y)
  passed (x ∷ xs) s t q y h =
      let e = tells x None h.0 h.1 in
      let p = passed xs y.0 t q y.2 (subst (λ (m : F). FoldsTo (λ p x q. Called g p (x, tt) None q) m xs q) e.0 h.2) in
      (p.0, one s y.0 x None y.1 e.1 ∙ p.1)

  -- what the search has left when it finds one, or none
  abbrev Found : Iter Entry → Iter Entry → Option Rights → Type 0
  Found s t r = MatchOption r (left s ≡ []) (λ y. left s ≡ rights_of y ∷ left t)

  found : (s t : Iter Entry) (x : Bor Entry) (r : Option Rights) → IsSome r → left s ≡ before (option_map rights_of r) (left t) → Found s t r
  found s t x None k e = absurd (false≢true k)
  found s t x (Some y) k e = e

  next : (s t : FilterMap (Iter Entry) F) (r : Option Rights) → filter_map_callee s ≡ f → filter_map_steps iter_steps g s r t
      → (filter_map_callee t ≡ f) × Found (filter_map_source s) (filter_map_source t) r
  next s t r e (xs, o, q, (u, y, n), h, m) =
      let p = passed xs (filter_map_source s) u q y (subst (λ (k : F). FoldsTo (λ p x q. Called g p (x, tt) None q) k xs q) e h) in
      by o n m p
    where
      by : (o : Option (Bor Entry)) → iter_steps u o (filter_map_source t)
          → MatchOption o ((r ≡ None) × (filter_map_callee t ≡ q)) (λ x. Called g q (x, tt) r (filter_map_callee t) × IsSome r)
          → (q ≡ f) × (left (filter_map_source s) ≡ left u)
          → (filter_map_callee t ≡ f) × Found (filter_map_source s) (filter_map_source t) r
      by None n m p =
          (m.1 ∙ p.0, subst (Found (filter_map_source s) (filter_map_source t)) (sym m.0) (p.1 ∙ nothing_left text (iter_rest u) n.0))
      by (Some x) n m p =
          let t' = tells x r (filter_map_callee t) (subst (λ (k : F). Called g k (x, tt) r (filter_map_callee t)) p.0 m.0) in
          (t'.0, found (filter_map_source s) (filter_map_source t) x r m.1 (p.1 ∙ one u (filter_map_source t) x r n t'.1))

  module _ (es : List Entry) (s t u : FilterMap (Iter Entry) F) (r p : Option Rights) (all : iter_rest (filter_map_source s) ≡ es) (e : filter_map_callee s ≡ f)
      (n : filter_map_steps iter_steps g s r t) where
    -- the search finds none,
    pub no_holder : r ≡ None → rights_in text es ≡ None
    no_holder k = ap (rights_in text) (sym all) ∙ ap single (MatchOption-at_none _ _ k (next s t r e n).1)

    -- or one, and then another,
    pub more_holders : (y z : Rights) → r ≡ Some y → filter_map_steps iter_steps g t p u → p ≡ Some z → rights_in text es ≡ None
    more_holders y z k m l =
        let h = next s t r e n in
        let i = next t u p h.0 m in
        ap (rights_in text) (sym all)
        ∙ ap single (MatchOption-at_some _ _ y k h.1 ∙ ap (λ (rest : List RightsText). rights_of y ∷ rest) (MatchOption-at_some _ _ z l i.1))

    -- or one alone
    pub one_holder : (y : Rights) → r ≡ Some y → filter_map_steps iter_steps g t p u → p ≡ None → rights_in text es ≡ Some (rights_of y)
    one_holder y k m l =
        let h = next s t r e n in
        let i = next t u p h.0 m in
        ap (rights_in text) (sym all)
        ∙ ap single (MatchOption-at_some _ _ y k h.1 ∙ ap (λ (rest : List RightsText). rights_of y ∷ rest) (MatchOption-at_none _ _ l i.1))

    -- and what is told of the first, with what was found behind it
    pub holders_told : (y : Rights) → r ≡ Some y → filter_map_steps iter_steps g t p u → (q : Option Rights) → MatchOption p (q ≡ Some y) (λ _. q ≡ None) → rights_in text es ≡ option_map rights_of q
    holders_told y k m q told = by p refl
      where
        by : (o : Option Rights) → p ≡ o → rights_in text es ≡ option_map rights_of q
        by None l = one_holder y k m l ∙ ap (option_map rights_of) (sym (MatchOption-at_none _ _ l told))
        by (Some z) l = more_holders y z k m l ∙ ap (option_map rights_of) (sym (MatchOption-at_some _ _ z l told))
