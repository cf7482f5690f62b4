-- Memories that agree with what stands below.
use Rattle.std.proofs.Common.{◌≡◌, ℕ, true, false, List, [], ◌∷◌, is_ok, Some, None, Option, Result, sym, refl, ◌∙◌, subst, inl, inr, arith}
use Rattle.std.specs.Str.{bytes_eq}
use Rattle.std.proofs.ByRecursion.{All-weaker, All-take}
use Rattle.std.proofs.lemmas.Bool.{cases_Bool}
use Rattle.register.specs.declared.reference.Reference.{Reference}
use Rattle.register.specs.declared.front.Front.{Front}
use Rattle.register.specs.declared.call.EnterRefusal.{EnterRefusal}
use Rattle.register.specs.declared.call.Call.{Call}
use Rattle.register.specs.declared.call.Call.TheVariants.{Enter, Strike}
use Rattle.register.specs.declared.call.Answer.{Answer}
use Rattle.register.specs.declared.call.Answer.TheVariants.{Number, Verdict}
use Rattle.register.specs.Pairs.{Pair, key, look, forgotten}
use Rattle.register.specs.Sets.{Found, Entered, Struck}
use Rattle.register.specs.Memos.{Memo, learnt}
use Rattle.register.specs.Fronts.{remembered, recalled, Agrees, Finding, FrontRule}
use Rattle.register.proofs.Edits.{alike_refl}
use Rattle.register.proofs.Pairs.{same_eq, same_flip, same_refl}
use Rattle.register.specs.Spelling.{spelling}

pub agrees_recall : (ps : List Pair) (ms : List Memo) (k : List ℕ) (a : Option ℕ) → Agrees ps ms → look ms k ≡ Some a → a ≡ look ps k
agrees_recall ps [] k a ok h = let z : ◌≡◌ {A = ℕ} 0 1 = cc in absurd (omega arith)
agrees_recall ps (m ∷ ms) k a ok h =
    elim (cases_Bool (bytes_eq (key m) k)) [
      | inl e ↦ (let f = same_eq (key m) k e in let s : Some m.value ≡ Some a = rw e at h in let v = ok.0 in cc)
      | inr e ↦ agrees_recall ps ms k a ok.1 (rw e at h)
    ]

pub agrees_alike : (ps qs : List Pair) (ms : List Memo) → ((q : List ℕ) → look qs q ≡ look ps q) → Agrees ps ms → Agrees qs ms
agrees_alike ps qs ms same ok = All-weaker (λ m. m.value ≡ look ps (key m)) (λ m. m.value ≡ look qs (key m)) (λ m h. h ∙ sym (same (key m))) ms ok

-- where all but k stands as it did
pub agrees_forgotten : (ps qs : List Pair) (ms : List Memo) (k : List ℕ) → ((q : List ℕ) → bytes_eq k q ≡ false → look qs q ≡ look ps q) → Agrees ps ms → Agrees qs (forgotten ms k)
agrees_forgotten ps qs [] k same ok = tt
agrees_forgotten ps qs (m ∷ ms) k same ok =
    let ih = agrees_forgotten ps qs ms k same ok.1 in
    elim (cases_Bool (bytes_eq (key m) k)) [
      | inl e ↦ rw e ih
      | inr e ↦ rw e (ok.0 ∙ sym (same (key m) (same_flip k (key m) ∙ e)), ih)
    ]

pub agrees_learnt : (ps qs : List Pair) (ms : List Memo) (r : Reference) (a : Option ℕ) → ((q : List ℕ) → bytes_eq (spelling r) q ≡ false → look qs q ≡ look ps q) → a ≡ look qs (spelling r) → Agrees ps ms → Agrees qs (learnt ms r a)
agrees_learnt ps qs ms r a same is ok = All-take (λ m. m.value ≡ look qs (key m)) 16 (record { reference = r; value = a } ∷ forgotten ms (spelling r)) (is, agrees_forgotten ps qs ms (spelling r) same ok)

pub none_some : {V : Type 0} (o : Option V) (a : V) → o ≡ None → o ≡ Some a → ⊥
none_some o a e f = let z : ◌≡◌ {A = ℕ} 0 1 = cc in omega arith

-- after a find that asked below
pub keeps_found : (ps qs : List Pair) (ms ns : List Memo) (r : Reference) (a : Option ℕ) → Found ps qs (spelling r) a → ns ≡ learnt ms r a → Agrees ps ms → Agrees qs ns
keeps_found ps qs ms ns r a f is ok = let P : List Memo → Type 0 = λ l. Agrees qs l in subst P (sym is) (agrees_learnt ps qs ms r a (λ q _. f.same.looks q) (f.answer ∙ sym (f.same.looks (spelling r))) ok)

-- after an accepted enter
pub keeps_entered : (room : ℕ) (ps qs : List Pair) (ms ns : List Memo) (r : Reference) (n : ℕ) (a : Result (Unit {0}) EnterRefusal) → Entered room ps qs (spelling r) n a → is_ok a ≡ true → ns ≡ learnt ms r (Some n) → Agrees ps ms → Agrees qs ns
keeps_entered room ps qs ms ns r n a e done is ok =
    let P : List Memo → Type 0 = λ l. Agrees qs l in
    subst P (sym is) (agrees_learnt ps qs ms r (Some n) (λ q h. e.looks q ∙ rw (done, h) refl) (sym (e.looks (spelling r) ∙ rw (done, same_refl (spelling r)) refl)) ok)

-- after a refused enter
pub keeps_refused : (room : ℕ) (ps qs : List Pair) (ms : List Memo) (k : List ℕ) (n : ℕ) (a : Result (Unit {0}) EnterRefusal) → Entered room ps qs k n a → is_ok a ≡ false → Agrees ps ms → Agrees qs ms
keeps_refused room ps qs ms k n a e not-ok ok = agrees_alike ps qs ms (λ q. e.looks q ∙ rw not-ok refl) ok

-- after a strike
pub keeps_struck : (ps qs : List Pair) (ms ns : List Memo) (k : List ℕ) (a : Option ℕ) → Struck ps qs k a → ns ≡ forgotten ms k → Agrees ps ms → Agrees qs ns
keeps_struck ps qs ms ns k a s is ok = let P : List Memo → Type 0 = λ l. Agrees qs l in subst P (sym is) (agrees_forgotten ps qs ms k (λ q h. s.looks q ∙ rw h refl) ok)

-- a front's call, by its rule and by what the register below promises
module _ {R : Type 0} (pairs : R → List Pair) (rule : R → Call → Answer → R → Type 0) (s t : Front R) (r : Reference) where
  pub found_front : (a : Option ℕ) → Finding rule s r (Number a) t → (recalled s r ≡ None → Found (pairs s.below) (pairs t.below) (spelling r) a) → Agrees (pairs s.below) (remembered s.memory) → Found (pairs s.below) (pairs t.below) (spelling r) a × Agrees (pairs t.below) (remembered t.memory)
  found_front a f below ok = by (recalled s r) refl where
    by : (o : Option (Option ℕ)) → recalled s r ≡ o → Found (pairs s.below) (pairs t.below) (spelling r) a × Agrees (pairs t.below) (remembered t.memory)
    by None e =
        let b = below e in
        (b, keeps_found (pairs s.below) (pairs t.below) (remembered s.memory) (remembered t.memory) r a b (f.learns e).memory ok)
    by (Some b) e =
        let h = f.recalls b e in
        let n = h.0 in
        let v : a ≡ b = cc in
        let P : Front R → Type 0 = λ u. Found (pairs s.below) (pairs u.below) (spelling r) a × Agrees (pairs u.below) (remembered u.memory) in
        subst P (sym h.1) (record { answer = v ∙ agrees_recall (pairs s.below) (remembered s.memory) (spelling r) b ok e; same = alike_refl (pairs s.below) }, ok)

  pub entered_front : (room n : ℕ) (a : Result (Unit {0}) EnterRefusal) → FrontRule rule s (Enter r n) (Verdict a) t → Entered room (pairs s.below) (pairs t.below) (spelling r) n a → Agrees (pairs s.below) (remembered s.memory) → Agrees (pairs t.below) (remembered t.memory)
  entered_front room n a f e ok =
      let m = f.memory in
      elim (cases_Bool (is_ok a)) [
        | inl y ↦ (let is : remembered t.memory ≡ learnt (remembered s.memory) r (Some n) = rw y at m in keeps_entered room (pairs s.below) (pairs t.below) (remembered s.memory) (remembered t.memory) r n a e y is ok)
        | inr y ↦ (let is : remembered t.memory ≡ remembered s.memory = rw y at m in rw is (keeps_refused room (pairs s.below) (pairs t.below) (remembered s.memory) (spelling r) n a e y ok))
      ]

  pub struck_front : (a : Option ℕ) → FrontRule rule s (Strike r) (Number a) t → Struck (pairs s.below) (pairs t.below) (spelling r) a → Agrees (pairs s.below) (remembered s.memory) → Agrees (pairs t.below) (remembered t.memory)
  struck_front a f e ok = keeps_struck (pairs s.below) (pairs t.below) (remembered s.memory) (remembered t.memory) (spelling r) a e f.memory ok
