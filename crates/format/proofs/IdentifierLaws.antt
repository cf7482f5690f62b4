-- An identifier that is read is one that is spelled, and back. Assumes nothing.
use Rattle.std.proofs.Common.{◌≡◌, ℕ, zero, suc, ◌-◌, ◌≤◌, Bool, true, false, cond, List, [], ◌∷◌, ◌++◌, length, drop, IfSome, Some, None, codes, Option, sym, refl, ap, ◌∙◌, ap₂, subst, arith, length-append}
use Rattle.std.proofs.lemmas.List.{append_assoc, drop_at, drop-drop}
use Rattle.std.proofs.lemmas.Bool.{cond-true, cond-false}
use Rattle.std.specs.Bool.{then_some as some_if}
use Rattle.std.specs.Option.{option_map}
use Rattle.fields.specs.Characters.{capital, set_x}
use Rattle.format.specs.declared.identifiers.IdentifierParts.{IdentifierParts}
use Rattle.format.specs.Texts.{or_else, after_word, stands_for}
use Rattle.format.specs.Runs.{first_of, is_of, Of}
use Rattle.format.specs.Identifier.{Identifier, InIdentifier, issuer_text, identifier_text, meant, one_more, read_capitals, read_issuer, front_done, front_last, front_country, front_slash, front_code, front_issuer, read_front, identifier_done, identifier_in, parts_of, read_identifier}
use Rattle.format.specs.Laws.{Decoded, Once}
use Rattle.format.proofs.Decoding.{decoded, once}
use Rattle.format.proofs.Steps.{first_some, then_some}
use Rattle.format.proofs.NumberLaws.{found_then, word_right}
use Rattle.format.proofs.RunLaws.{of_decides}

capitals_complete : (n : ℕ) (l t : List ℕ) → Of capital n n l → Some (l, t) ≡ read_capitals n (l ++ t)
capitals_complete zero [] t h = refl
capitals_complete (suc n) [] t h = absurd (omega arith)
capitals_complete zero (c ∷ l) t h = absurd (omega arith)
capitals_complete (suc n) (c ∷ l) t h =
    sym (cond-true _ _ None h.0.0 ∙ ap (one_more c) (sym (capitals_complete n l t (h.0.1, omega arith, omega arith))))

abbrev Front : ℕ → List ℕ → List ℕ × List ℕ → Type 0
Front n s p = Of capital n n p.0 × (s ≡ p.0 ++ p.1)

capitals_right : (n : ℕ) (s : List ℕ) → IfSome (read_capitals n s) (Front n s)
capitals_right zero s = ((tt, omega arith, omega arith), refl)
capitals_right (suc n) [] = tt
capitals_right (suc n) (c ∷ s) = by (capital c) refl (read_capitals n s) (capitals_right n s)
  where
    by : (b : Bool) → capital c ≡ b → (o : Option (List ℕ × List ℕ)) → IfSome o (Front n s)
        → IfSome (cond b (one_more c o) None) (Front (suc n) (c ∷ s))
    by true e None h = tt
    by true e (Some p) h = (((e, h.0.0), omega (arith, h.0.1), omega (arith, h.0.2)), ap {B = List ℕ} (λ (x : List ℕ). c ∷ x) h.1)
    by false e o h = tt

-- what is read behind letters that were read
abbrev pub glued : List ℕ → Option (List ℕ × List ℕ) → Option (List ℕ × List ℕ)
glued l None = None
glued l (Some p) = Some (l ++ p.0, p.1)

-- one letter more
pub capital_more : (n m c : ℕ) (l s t : List ℕ) → n ≡ suc m → Some (c, t) ≡ first_of capital s
    → glued l (read_capitals n s) ≡ glued (l ++ (c ∷ [])) (read_capitals m t)
capital_more n m c l s t z e =
    let f = first_some capital s c t e in
    ap₂ (λ (k : ℕ) (u : List ℕ). glued l (read_capitals k u)) z f.0 ∙ ap (glued l) (cond-true _ _ None f.1) ∙ by (read_capitals m t)
  where
    by : (o : Option (List ℕ × List ℕ)) → glued l (one_more c o) ≡ glued (l ++ (c ∷ [])) o
    by None = refl
    by (Some p) = ap {B = Option (List ℕ × List ℕ)} (λ (u : List ℕ). Some (u, p.1)) (sym (append_assoc l (c ∷ []) p.0))

issuer_complete : (b : Bool) (t : List ℕ) → Some (b, t) ≡ read_issuer (issuer_text b ++ (codes "/" ++ t))
issuer_complete true t = refl
issuer_complete false t = refl

abbrev Issuer : List ℕ → Bool × List ℕ → Type 0
Issuer s p = s ≡ issuer_text p.0 ++ (codes "/" ++ p.1)

issuer_right : (s : List ℕ) → IfSome (read_issuer s) (Issuer s)
issuer_right s = by (after_word (codes "NSDR/") s) (after_word (codes "/") s) (word_right (codes "NSDR/") s) (word_right (codes "/") s)
  where
    by : (o p : Option (List ℕ)) → IfSome o (λ t. s ≡ codes "NSDR/" ++ t) → IfSome p (λ t. s ≡ codes "/" ++ t) → IfSome (or_else (stands_for true o) (stands_for false p)) (Issuer s)
    by (Some t) p h k = h
    by None (Some t) h k = k
    by None None h k = tt

front_complete : (b : Bool) (c k t : List ℕ) → Of capital 4 4 c → Of capital 2 2 k
    → Some ((b, c, k), t) ≡ read_front (codes "ALTE/" ++ (issuer_text b ++ (codes "/" ++ (c ++ (codes "/" ++ (k ++ (codes "/" ++ t)))))))
front_complete b c k t h i =
    then_some front_code (issuer_complete b _)
    (then_some (front_slash b) (capitals_complete 4 c _ h) (then_some (front_last b c) (capitals_complete 2 k _ i) refl))

complete : (m : Identifier) → InIdentifier m → identifier_in (identifier_text m) ≡ Some m
complete m h =
    sym (then_some identifier_done (front_complete m.issuer m.code m.country m.text h.0 h.1)
    (sym (cond-true _ (Some m) None ((of_decides set_x 1 30 m.text _ refl).1 h.2))))

abbrev FrontOf : List ℕ → (Bool × List ℕ × List ℕ) × List ℕ → Type 0
FrontOf s p =
    Of capital 4 4 p.0.1 × Of capital 2 2 p.0.2
    × (s ≡ codes "ALTE/" ++ (issuer_text p.0.0 ++ (codes "/" ++ (p.0.1 ++ (codes "/" ++ (p.0.2 ++ (codes "/" ++ p.1)))))))

front_right : (s : List ℕ) → IfSome (read_front s) (FrontOf s)
front_right s =
    found_then (after_word (codes "ALTE/") s) front_issuer _ (FrontOf s) (word_right (codes "ALTE/") s) (λ t a.
    found_then (read_issuer t) front_code _ (FrontOf s) (issuer_right t) (λ p b.
    found_then (read_capitals 4 p.1) (front_slash p.0) _ (FrontOf s) (capitals_right 4 p.1) (λ q c.
    found_then (after_word (codes "/") q.1) (front_country p.0 q.0) _ (FrontOf s) (word_right (codes "/") q.1) (λ u d.
    found_then (read_capitals 2 u) (front_last p.0 q.0) _ (FrontOf s) (capitals_right 2 u) (λ r e.
    found_then (after_word (codes "/") r.1) (front_done p.0 q.0 r.0) _ (FrontOf s) (word_right (codes "/") r.1) (λ x f. (
      c.0,
      e.0,
      a ∙ ap (λ (y : List ℕ). codes "ALTE/" ++ y) (b ∙ ap (λ (y : List ℕ). issuer_text p.0 ++ (codes "/" ++ y)) (c.1
          ∙ ap (λ (y : List ℕ). q.0 ++ y) (d ∙ ap (λ (y : List ℕ). codes "/" ++ y) (e.1 ∙ ap (λ (y : List ℕ). r.0 ++ y) f)))),
    )))))))

abbrev Meant : List ℕ → Identifier → Type 0
Meant s m = InIdentifier m × (s ≡ identifier_text m)

right : (s : List ℕ) → IfSome (identifier_in s) (Meant s)
right s =
    found_then (read_front s) identifier_done _ (Meant s) (front_right s) (λ p a. by p a (is_of set_x 1 30 p.1) refl)
  where
    by : (p : (Bool × List ℕ × List ℕ) × List ℕ) → FrontOf s p → (b : Bool) → is_of set_x 1 30 p.1 ≡ b
        → IfSome (cond b (Some (record { issuer = p.0.0; code = p.0.1; country = p.0.2; text = p.1 })) None) (Meant s)
    by p a true q = ((a.0, a.1, (of_decides set_x 1 30 p.1 _ refl).0 q), a.2)
    by p a false q = tt

pub identifier_decoded : (v : List ℕ) (r : Option Identifier) → r ≡ identifier_in v → Decoded InIdentifier identifier_text v r
identifier_decoded = decoded InIdentifier identifier_text identifier_in right complete

pub identifier_once : Once InIdentifier identifier_text
identifier_once = once InIdentifier identifier_text identifier_in complete

-- where the text starts
front_of : (v t : List ℕ) (b : Bool) (c k : List ℕ) → Some ((b, c, k), t) ≡ read_front v → FrontOf v ((b, c, k), t)
front_of v t b c k e = subst (λ (o : Option ((Bool × List ℕ × List ℕ) × List ℕ)). IfSome o (FrontOf v)) (sym e) (front_right v)

pub text_within : (v t : List ℕ) (b : Bool) (c k : List ℕ) → Some ((b, c, k), t) ≡ read_front v → length t ≤ length v
text_within v t b c k e = let a = front_of v t b c k e in omega (arith, simp length-append at (ap length a.2))

text_start : (v t : List ℕ) (b : Bool) (c k : List ℕ) → FrontOf v ((b, c, k), t) → length v - length t ≡ cond b 18 14
text_start v t true c k a = omega (arith, a.0.1, a.0.2, a.1.1, a.1.2, simp length-append at (ap length a.2))
text_start v t false c k a = omega (arith, a.0.1, a.0.2, a.1.1, a.1.2, simp length-append at (ap length a.2))

behind_parts : (c k t : List ℕ) → Of capital 4 4 c → Of capital 2 2 k → drop 8 (c ++ (47 ∷ (k ++ (47 ∷ t)))) ≡ t
behind_parts c k t h i =
    sym (drop-drop 4 4 (c ++ (47 ∷ (k ++ (47 ∷ t))))) ∙ ap (drop 4) (drop_at c (47 ∷ (k ++ (47 ∷ t))) 4 (omega (arith, h.1, h.2)))
    ∙ sym (drop-drop 1 2 (k ++ (47 ∷ t))) ∙ ap (drop 1) (drop_at k (47 ∷ t) 2 (omega (arith, i.1, i.2)))

text_of : (b : Bool) (c k t : List ℕ) → Of capital 4 4 c → Of capital 2 2 k
    → drop (cond b 18 14) (identifier_text (record { issuer = b; code = c; country = k; text = t })) ≡ t
text_of true c k t h i = behind_parts c k t h i
text_of false c k t h i = behind_parts c k t h i

-- the parts of what was read, and what they mean
pub parts_found : (v t : List ℕ) (b : Bool) (c k : List ℕ) (f : Bool) → Some ((b, c, k), t) ≡ read_front v → f ≡ is_of set_x 1 30 t
    → (some_if f (record { issuer = b; code = c; country = k; start = length v - length t }) ≡ read_identifier v)
    × (option_map (meant v) (some_if f (record { issuer = b; code = c; country = k; start = length v - length t })) ≡ identifier_in v)
parts_found v t b c k f e q =
    let a = front_of v t b c k e in
    let n : length v - length t ≡ cond b 18 14 = text_start v t b c k a in
    let d : drop (cond b 18 14) v ≡ t = ap (drop (cond b 18 14)) a.2 ∙ text_of b c k t a.0 a.1 in
    let i : identifier_done ((b, c, k), t) ≡ identifier_in v = then_some identifier_done e refl in
    rw n (by f q ∙ ap (option_map parts_of) i, meaning f q d ∙ i)
  where
    by : (f : Bool) → f ≡ is_of set_x 1 30 t
        → some_if f (record { issuer = b; code = c; country = k; start = cond b 18 14 }) ≡ option_map parts_of (identifier_done ((b, c, k), t))
    by true q = ap {B = Option IdentifierParts} (λ (x : Option Identifier). option_map parts_of x) (sym (cond-true _ (Some (record { issuer = b; code = c; country = k; text = t })) None (sym q)))
    by false q = ap (λ (x : Option Identifier). option_map parts_of x) (sym (cond-false _ (Some (record { issuer = b; code = c; country = k; text = t })) None (sym q)))

    meaning : (f : Bool) → f ≡ is_of set_x 1 30 t → drop (cond b 18 14) v ≡ t
        → option_map (meant v) (some_if f (record { issuer = b; code = c; country = k; start = cond b 18 14 })) ≡ identifier_done ((b, c, k), t)
    meaning true q d =
        ap {B = Option Identifier} (λ (x : List ℕ). Some (record { issuer = b; code = c; country = k; text = x })) d ∙ sym (cond-true _ _ None (sym q))
    meaning false q d = sym (cond-false _ (Some (record { issuer = b; code = c; country = k; text = t })) None (sym q))

-- what is read is in range, and the value is its spelling
pub identifier_in_lem : (v : List ℕ) (p : IdentifierParts) → read_identifier v ≡ Some p → InIdentifier (meant v p) × (v ≡ identifier_text (meant v p))
identifier_in_lem v p e = by (identifier_in v) (right v) e
  where
    by : (o : Option Identifier) → IfSome o (Meant v) → option_map parts_of o ≡ Some p → InIdentifier (meant v p) × (v ≡ identifier_text (meant v p))
    by None h q = let f : ◌≡◌ {A = ℕ} 0 1 = cc in absurd (omega arith)
    by (Some m) h q =
        let t : drop (cond m.issuer 18 14) v ≡ m.text =
        ap (drop (cond m.issuer 18 14)) h.1 ∙ text_of m.issuer m.code m.country m.text h.0.0 h.0.1 in
        let x : m ≡ meant v (parts_of m) =
        ap {B = Identifier} (λ (y : List ℕ). record { issuer = m.issuer; code = m.code; country = m.country; text = y }) (sym t) in
        let y : parts_of m ≡ p = cc in
        subst (Meant v) (x ∙ ap (meant v) y) h
