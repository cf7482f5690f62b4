-- A good entry has a row, and a part inside the bytes with that row's key and no colon in it behind a CR LF. Assumes nothing.
use Rattle.std.proofs.Common.{◌≡◌, ℕ, suc, ◌+◌, ◌-◌, ◌≤◌, Bool, true, false, cond, not, ◌&&◌, eqb, ltb, leb, List, [], ◌∷◌, ◌++◌, length, Some, None, Option, unwrap_or, sym, refl, ap, ◌∙◌, subst, inl, inr, arith, rules}
use Rattle.std.proofs.lemmas.Bool.{eqb-true, eq-eqb, leb-true, le-leb, and_parts, and_from, or_cases, or_left, or_right, or_from, not-true, not_from_false, both_ways, false≢true, cond-true, cond-false}
use Rattle.std.proofs.lemmas.Slice.Eq.{bytes_eq-Decides}
use Rattle.std.specs.List.{slice_get}
use Rattle.fields.specs.declared.headers.Qualifier.{Qualifier}
use Rattle.fields.specs.Characters.{begins}
use Rattle.fields.specs.Lines.{breaks, tail}
use Rattle.fields.specs.Laws.{colon_line}
use Rattle.sheet.specs.Rows.{Row}
use Rattle.sheet.specs.Rows.Row.{Open, Close, Field}
use Rattle.sheet.specs.Rows.{is_qualifier, among, admits}
use Rattle.reader.specs.declared.table.Entry.{Entry}
use Rattle.writer.specs.Entries.{part_in, inside, leading, qualifier_in, keyed, takes, good_entry, entry_from, entry_fault}
use Rattle.writer.specs.Laws.{OneOf, BeginsWith, Begun, HasKey, Single, GoodEntry, AllGood, FirstBad}

pub never : {X : Type 0} → ◌≡◌ {A = ℕ} 0 1 → X
never e = absurd (omega arith)

-- the same qualifier
qualifier_same : (a b : Qualifier) → is_qualifier a b ≡ true → b ≡ a
qualifier_same a b h =
    let p = and_parts (eqb a.0 b.0) (eqb a.1 b.1 && (eqb a.2 b.2 && eqb a.3 b.3)) h in
    let q = and_parts (eqb a.1 b.1) (eqb a.2 b.2 && eqb a.3 b.3) p.1 in
    let r = and_parts (eqb a.2 b.2) (eqb a.3 b.3) q.1 in
    sym (ap {B = Qualifier} (λ (n : ℕ). (n, a.1, a.2, a.3)) (eqb-true a.0 b.0 p.0)
    ∙ ap {B = Qualifier} (λ (n : ℕ). (b.0, n, a.2, a.3)) (eqb-true a.1 b.1 q.0)
    ∙ ap {B = Qualifier} (λ (n : ℕ). (b.0, b.1, n, a.3)) (eqb-true a.2 b.2 r.0)
    ∙ ap {B = Qualifier} (λ (n : ℕ). (b.0, b.1, b.2, n)) (eqb-true a.3 b.3 r.1))

qualifier_self : (a b : Qualifier) → b ≡ a → is_qualifier a b ≡ true
qualifier_self a b e =
    rw e (and_from _ _ (eq-eqb a.0 a.0 refl) (and_from _ _ (eq-eqb a.1 a.1 refl) (and_from _ _ (eq-eqb a.2 a.2 refl) (eq-eqb a.3 a.3 refl))))

pub one_of : (q : Qualifier) (qs : List Qualifier) → among q qs ≡ true → OneOf q qs
one_of q [] h = absurd (false≢true h)
one_of q (x ∷ qs) h = elim (or_cases (is_qualifier x q) (among q qs) h) [
  | inl s ↦ inl (qualifier_same x q s)
  | inr s ↦ inr (one_of q qs s)
]

pub of_one : (q : Qualifier) (qs : List Qualifier) → OneOf q qs → among q qs ≡ true
of_one q [] h = absurd h
of_one q (x ∷ qs) (inl e) = or_left (is_qualifier x q) (among q qs) (qualifier_self x q e)
of_one q (x ∷ qs) (inr h) = or_right (is_qualifier x q) (among q qs) (of_one q qs h)

-- the qualifier with which a part begins
pub leads : (part : List ℕ) (q : Qualifier) → leading part ≡ Some q → BeginsWith q part
leads [] q e = never (cc)
leads (a ∷ []) q e = never (cc)
leads (a ∷ b ∷ []) q e = never (cc)
leads (a ∷ b ∷ c ∷ []) q e = never (cc)
leads (a ∷ b ∷ c ∷ d ∷ []) q e = never (cc)
leads (a ∷ b ∷ c ∷ d ∷ s ∷ m) q e = by (eqb s 47) refl (ltb 4 (length (a ∷ b ∷ c ∷ d ∷ s ∷ m))) e
  where
    by : (t : Bool) → eqb s 47 ≡ t → (u : Bool) → cond (u && t) (Some (a, b, c, d)) None ≡ Some q → BeginsWith q (a ∷ b ∷ c ∷ d ∷ s ∷ m)
    by t p false w = never (cc)
    by false p true w = never (cc)
    by true p true w =
        let k : s ≡ 47 = eqb-true s 47 p in
        let x0 : a ≡ q.0 = ap (λ (o : Option Qualifier). (unwrap_or o q).0) w in
        let x1 : b ≡ q.1 = ap (λ (o : Option Qualifier). (unwrap_or o q).1) w in
        let x2 : c ≡ q.2 = ap (λ (o : Option Qualifier). (unwrap_or o q).2) w in
        let x3 : d ≡ q.3 = ap (λ (o : Option Qualifier). (unwrap_or o q).3) w in
        (m, rw (x0, x1, x2, x3, k) refl)

pub begun_by : (part : List ℕ) (q : Qualifier) → BeginsWith q part → leading part ≡ Some q
begun_by part q (m, e) = ap leading e ∙ cond-true _ _ _ (and_from _ _ (le-leb 5 (length (q.0 ∷ q.1 ∷ q.2 ∷ q.3 ∷ 47 ∷ m)) (omega arith)) refl)

-- where there are qualifiers, a field has one
pub none_admitted : (x : Qualifier) (qs : List Qualifier) → admits (x ∷ qs) None ≡ false
none_admitted x qs = search rules

pub qualifier_led : (x : Qualifier) (qs : List Qualifier) (part : List ℕ) → qualifier_in (x ∷ qs) part ≡ leading part
qualifier_led x qs part = cond-false {A = Option Qualifier} (admits (x ∷ qs) None) None (leading part) (none_admitted x qs)

pub one_admitted : (x : Qualifier) (qs : List Qualifier) (o : Option Qualifier) → admits (x ∷ qs) o ≡ true
    → (q : Qualifier) × (o ≡ Some q) × OneOf q (x ∷ qs)
one_admitted x qs None a = absurd (both_ways (admits (x ∷ qs) None) (none_admitted x qs) a)
one_admitted x qs (Some q) a = (q, refl, one_of q (x ∷ qs) a)

-- has the part the row's key?
begun_right : (qs : List Qualifier) (part : List ℕ) → admits qs (qualifier_in qs part) ≡ true → Begun qs part
begun_right [] part h = tt
begun_right (x ∷ qs) part h =
    let o = one_admitted x qs (qualifier_in (x ∷ qs) part) h in
    (o.0, o.2, leads part o.0 (sym (qualifier_led x qs part) ∙ o.1))

begun_complete : (qs : List Qualifier) (part : List ℕ) → Begun qs part → admits qs (qualifier_in qs part) ≡ true
begun_complete [] part h = refl
begun_complete (x ∷ qs) part (q, o, b) = ap (admits (x ∷ qs)) (qualifier_led x qs part ∙ begun_by part q b) ∙ of_one q (x ∷ qs) o

pub key_right : (r : Row) (part : List ℕ) → keyed r part ≡ true → HasKey r part
key_right (Open m n) part h = sym ((bytes_eq-Decides n part).0 h)
key_right (Close n) part h = sym ((bytes_eq-Decides n part).0 h)
key_right (Field f) part h = begun_right f.qualifiers part h

pub key_complete : (r : Row) (part : List ℕ) → HasKey r part → keyed r part ≡ true
key_complete (Open m n) part h = (bytes_eq-Decides n part).1 (sym h)
key_complete (Close n) part h = (bytes_eq-Decides n part).1 (sym h)
key_complete (Field f) part h = begun_complete f.qualifiers part h

-- does a colon stand directly behind a CR LF?
breaks_at : (c : ℕ) (cs : List ℕ) → (breaks c cs && begins 58 (tail cs)) ≡ true → (b : List ℕ) × (c ∷ cs ≡ 13 ∷ 10 ∷ 58 ∷ b)
breaks_at c [] e = let p = and_parts (breaks c []) false e in absurd (false≢true p.1)
breaks_at c (d ∷ []) e = let p = and_parts (breaks c (d ∷ [])) false e in absurd (false≢true p.1)
breaks_at c (d ∷ x ∷ b) e =
    let p = and_parts (eqb c 13 && eqb d 10) (eqb x 58) e in
    let q = and_parts (eqb c 13) (eqb d 10) p.0 in
    let u = eqb-true c 13 q.0 in
    let v = eqb-true d 10 q.1 in
    let w = eqb-true x 58 p.1 in
    (b, cc)

colon_at : (a b : List ℕ) → colon_line (a ++ (13 ∷ 10 ∷ 58 ∷ b)) ≡ true
colon_at [] b = refl
colon_at (c ∷ a) b = or_right _ (colon_line (a ++ (13 ∷ 10 ∷ 58 ∷ b))) (colon_at a b)

pub single_right : (part : List ℕ) → colon_line part ≡ false → Single part
single_right part h a b e = both_ways (colon_line part) h (ap colon_line e ∙ colon_at a b)

pub single_complete : (part : List ℕ) → Single part → colon_line part ≡ false
single_complete [] s = refl
single_complete (c ∷ cs) s =
    or_from (breaks c cs && begins 58 (tail cs)) (colon_line cs) (here (breaks c cs && begins 58 (tail cs)) refl)
    (single_complete cs (λ a b e. s (c ∷ a) b (ap (λ (t : List ℕ). c ∷ t) e)))
  where
    here : (t : Bool) → (breaks c cs && begins 58 (tail cs)) ≡ t → t ≡ false
    here false p = refl
    here true p = let q = breaks_at c cs p in absurd (s [] q.0 q.1)

module _ (rows : List Row) (bytes : List ℕ) where
  takes_right : (e : Entry) (o : Option Row) → slice_get rows e.row ≡ o → e.start + e.len ≤ length bytes → takes o (part_in bytes e) ≡ true → GoodEntry rows bytes e
  takes_right e None p w t = absurd (false≢true t)
  takes_right e (Some r) p w t =
      let q = and_parts (keyed r (part_in bytes e)) (not (colon_line (part_in bytes e))) t in
      record {
        row = r;
        there = p;
        within = w;
        key = key_right r (part_in bytes e) q.0;
        single = single_right (part_in bytes e) (not-true _ q.1);
      }

  pub good_right : (e : Entry) → good_entry rows bytes e ≡ true → GoodEntry rows bytes e
  good_right e h =
      let p = and_parts (inside bytes e) _ h in
      let q = and_parts (leb e.start (length bytes)) _ p.0 in
      let s = leb-true _ _ q.0 in
      let l = leb-true _ _ q.1 in
      takes_right e (slice_get rows e.row) refl (omega arith) p.1

  pub good_complete : (e : Entry) → GoodEntry rows bytes e → good_entry rows bytes e ≡ true
  good_complete e g =
      let w = g.within in
      and_from (inside bytes e) _
      (and_from _ _ (le-leb e.start (length bytes) (omega arith)) (le-leb e.len (length bytes - e.start) (omega arith)))
      (ap (λ (o : Option Row). takes o (part_in bytes e)) g.there
      ∙ and_from _ _ (key_complete g.row (part_in bytes e) g.key) (not_from_false _ (single_complete (part_in bytes e) g.single)))

  -- all entries are good, or one is the first that is not
  pub record BadIn (k : ℕ) (entries : List Entry) (i : ℕ) : Type 0 where
    pub before : List Entry
    pub first : Entry
    pub behind : List Entry
    pub cut : entries ≡ before ++ (first ∷ behind)
    pub place : i ≡ k + length before
    pub good : AllGood rows bytes before
    pub bad : GoodEntry rows bytes first → ⊥

  abbrev Found : ℕ → List Entry → Option ℕ → Type 0
  Found k es None = AllGood rows bytes es
  Found k es (Some i) = BadIn k es i

  found : (k : ℕ) (es : List Entry) → Found k es (entry_from rows bytes k es)
  found k [] = tt
  found k (e ∷ es) = by (good_entry rows bytes e) refl (entry_from rows bytes (suc k) es) (found (suc k) es)
    where
      by : (b : Bool) → good_entry rows bytes e ≡ b → (o : Option ℕ) → Found (suc k) es o → Found k (e ∷ es) (cond b o (Some k))
      by true p None a = (good_right e p, a)
      by true p (Some i) u =
          record {
            before = e ∷ u.before;
            first = u.first;
            behind = u.behind;
            cut = ap (λ (x : List Entry). e ∷ x) u.cut;
            place = let q = u.place in omega arith;
            good = (good_right e p, u.good);
            bad = u.bad;
          }
      by false p o a =
          record {
            before = [];
            first = e;
            behind = es;
            cut = refl;
            place = omega arith;
            good = tt;
            bad = λ g. both_ways _ p (good_complete e g);
          }

  pub all_good : (es : List Entry) → None ≡ entry_fault rows bytes es → AllGood rows bytes es
  all_good es p = subst (λ (o : Option ℕ). Found 0 es o) (sym p) (found 0 es)

  pub first_bad : (es : List Entry) (i : ℕ) → Some i ≡ entry_fault rows bytes es → FirstBad rows bytes es i
  first_bad es i p =
      let u : BadIn 0 es i = subst (λ (o : Option ℕ). Found 0 es o) (sym p) (found 0 es) in
      record {
        before = u.before;
        first = u.first;
        behind = u.behind;
        cut = u.cut;
        place = let q = u.place in omega arith;
        good = u.good;
        bad = u.bad;
      }

  pub none_bad : (k : ℕ) (es : List Entry) → AllGood rows bytes es → entry_from rows bytes k es ≡ None
  none_bad k [] a = refl
  none_bad k (e ∷ es) a = cond-true _ _ _ (good_complete e a.0) ∙ none_bad (suc k) es a.1
