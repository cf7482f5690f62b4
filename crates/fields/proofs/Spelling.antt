-- The fields of a text spell it. Assumes nothing.
use Rattle.std.proofs.Common.{◌≡◌, ℕ, suc, ◌+◌, ◌-◌, Bool, true, false, cond, List, [], ◌∷◌, ◌++◌, length, take, drop, is_some, Some, None, Option, sym, refl, ap, ◌∙◌, append_assoc, arith, length-append}
use lib.Seq.{take-append-add, drop-append-add, drop-append_seam}
use Rattle.fields.specs.declared.headers.Header.{Header}
use Rattle.fields.specs.declared.walk.Field.{Field}
use Rattle.fields.specs.Lines.{Lines, rest, line, lines}
use Rattle.fields.specs.Headers.{header}
use Rattle.fields.specs.Fields.{continued, opened, fields_from, second, value_in, spelled1, spelled}
use Rattle.fields.proofs.Cutting.{split, rest_is}
use Rattle.fields.proofs.Heads.{Headed, headed}

-- every line is ended
abbrev pub Ended : Lines → Type 0
Ended (rest r) = r ≡ []
Ended (line l ls) = Ended ls

-- the part of a line, CR LF and what follows
take_over : (l m : List ℕ) (k : ℕ) → take (length l + (2 + k)) (l ++ (13 ∷ 10 ∷ m)) ≡ l ++ (13 ∷ 10 ∷ take k m)
take_over l m k =
    let e : 2 + k ≡ suc (suc k) = omega arith in
    rw e (take-append-add l (13 ∷ 10 ∷ m) (suc (suc k)))

-- the lines that continue a field, with CR LF before them or behind
turned_more : (l m t : List ℕ) (k : ℕ) → m ≡ l ++ (13 ∷ 10 ∷ t) → take k (13 ∷ 10 ∷ t) ++ (13 ∷ 10 ∷ []) ≡ 13 ∷ 10 ∷ take k t
    → take (length l + (2 + k)) (13 ∷ 10 ∷ m) ++ (13 ∷ 10 ∷ []) ≡ 13 ∷ 10 ∷ take (length l + (2 + k)) m
turned_more l m t k w e =
    let q : length l + (2 + k) ≡ suc (suc (length l + k)) = omega arith in
    let a : take (length l + (2 + k)) (13 ∷ 10 ∷ m) ≡ 13 ∷ 10 ∷ (l ++ take k (13 ∷ 10 ∷ t)) = rw (q, w, take-append-add) refl in
    let b : take (length l + (2 + k)) m ≡ l ++ (13 ∷ 10 ∷ take k t) = rw w (take_over l t k) in
    rw (a, b, append_assoc, e) refl

turned : (x : Lines) (m : List ℕ) → lines m ≡ x → take (continued x) (13 ∷ 10 ∷ m) ++ (13 ∷ 10 ∷ []) ≡ 13 ∷ 10 ∷ take (continued x) m
turned (rest r) m e = refl
turned (line l ls) m e = by (λ t p. turned ls t p) (is_some (header l))
  where
    by : ((t : List ℕ) → lines t ≡ ls → take (continued ls) (13 ∷ 10 ∷ t) ++ (13 ∷ 10 ∷ []) ≡ 13 ∷ 10 ∷ take (continued ls) t)
        → (b : Bool) → let k = cond b 0 (length l + (2 + continued ls)) in take k (13 ∷ 10 ∷ m) ++ (13 ∷ 10 ∷ []) ≡ 13 ∷ 10 ∷ take k m
    by ih true = refl
    by ih false = let s = split m l ls e in turned_more l m s.tail _ s.whole (ih s.tail s.others)

-- the field that begins at n with the header h, and has so many bytes before its last CR LF
abbrev pub field_at : ℕ → Header → ℕ → Field
field_at n h size = record { start = n; tag = h.tag; qualifier = h.qualifier; value = n + h.len; len = size - h.len }

-- its value: what is left of its line, and the lines that continue it, each behind a CR LF
pub value_is : (p l t : List ℕ) (k n : ℕ) (h : Header) (d : Headed l h) → n ≡ length p
    → value_in (p ++ (l ++ (13 ∷ 10 ∷ t))) (field_at n h (length l + k)) ≡ d.more ++ take k (13 ∷ 10 ∷ t)
value_is p l t k n h d z =
    by (58 ∷ h.tag.0 ∷ h.tag.1 ∷ h.tag.2 ∷ 58 ∷ second h.qualifier) d.more d.whole (let s = d.size in omega arith)
  where
    by : (hd v : List ℕ) → l ≡ hd ++ v → h.len ≡ length hd
        → take ((length l + k) - h.len) (drop (n + h.len) (p ++ (l ++ (13 ∷ 10 ∷ t)))) ≡ v ++ take k (13 ∷ 10 ∷ t)
    by hd v w s =
        let a : (length l + k) - h.len ≡ length v + k = rw (w, s, length-append) (omega arith) in
        let b : drop (n + h.len) (p ++ (l ++ (13 ∷ 10 ∷ t))) ≡ v ++ (13 ∷ 10 ∷ t) =
        rw (z, drop-append-add, w, append_assoc, s) (drop-append_seam hd (v ++ (13 ∷ 10 ∷ t))) in
        rw (a, b) (take-append-add v (13 ∷ 10 ∷ t) k)

-- as it is spelled: its line, CR LF, and the lines that continue it, each with its CR LF
one_spelled : (p l t : List ℕ) (k n : ℕ) (h : Header) → Headed l h → n ≡ length p → take k (13 ∷ 10 ∷ t) ++ (13 ∷ 10 ∷ []) ≡ 13 ∷ 10 ∷ take k t
    → spelled1 (p ++ (l ++ (13 ∷ 10 ∷ t))) (field_at n h (length l + k)) ≡ l ++ (13 ∷ 10 ∷ take k t)
one_spelled p l t k n h d z e =
    by (58 ∷ h.tag.0 ∷ h.tag.1 ∷ h.tag.2 ∷ 58 ∷ second h.qualifier) d.more d.whole _ (value_is p l t k n h d z)
  where
    by : (hd v : List ℕ) → l ≡ hd ++ v → (value : List ℕ) → value ≡ v ++ take k (13 ∷ 10 ∷ t)
        → hd ++ (value ++ (13 ∷ 10 ∷ [])) ≡ l ++ (13 ∷ 10 ∷ take k t)
    by hd v w value s = rw (s, append_assoc, e, w, append_assoc) refl

pub regrouped : (p l t m text : List ℕ) → t ≡ l ++ (13 ∷ 10 ∷ m) → text ≡ p ++ t → text ≡ (p ++ (l ++ (13 ∷ 10 ∷ []))) ++ m
regrouped p l t m text v w = rw (w, v, append_assoc, append_assoc) refl

pub all_spelled : (x : Lines) (t p text : List ℕ) (n : ℕ) → lines t ≡ x → Ended x → n ≡ length p → text ≡ p ++ t
    → take (continued x) t ++ spelled text (fields_from n x) ≡ t
all_spelled (rest r) t p text n e d z w = let s : t ≡ r = rest_is t r e in cc
all_spelled (line l ls) t p text n e d z w =
    let s = split t l ls e in
    by s.tail s.whole s.others (header l) refl
    (all_spelled ls s.tail (p ++ (l ++ (13 ∷ 10 ∷ []))) text (n + (length l + 2)) s.others d
    (simp length-append (omega arith)) (regrouped p l t s.tail text s.whole w))
  where
    by : (m : List ℕ) → t ≡ l ++ (13 ∷ 10 ∷ m) → lines m ≡ ls → (o : Option Header) → header l ≡ o
        → take (continued ls) m ++ spelled text (fields_from (n + (length l + 2)) ls) ≡ m
        → take (cond (is_some o) 0 (length l + (2 + continued ls))) t
        ++ spelled text (opened o n (length l + continued ls) ++ fields_from (n + (length l + 2)) ls) ≡ t
    by m v q None g i = rw (v, take_over, append_assoc, i) refl
    by m v q (Some h) g i =
        let a : spelled1 text (field_at n h (length l + continued ls)) ≡ l ++ (13 ∷ 10 ∷ take (continued ls) m) =
        rw (w, v) (one_spelled p l m (continued ls) n h (headed l h g) z (turned ls m q)) in
        ap (λ (y : List ℕ). y ++ spelled text (fields_from (n + (length l + 2)) ls)) a ∙ rw (append_assoc, i) (sym v)
