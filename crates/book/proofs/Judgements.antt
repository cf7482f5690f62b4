-- What look-ups and a check come to: the judgement on an order.
use Rattle.std.proofs.Common.{◌≡◌, ℕ, Ok, Err, Option, Result, IsErrAnd, sym, ap, ◌∙◌}
use Rattle.std.proofs.lemmas.Result.{err_from_is_err_and}
use Rattle.register.specs.declared.interface.Register as Register
use Rattle.register.specs.declared.call.Call.TheVariants.{Find}
use Rattle.register.specs.declared.call.Answer.TheVariants.{Number}
use Rattle.register.specs.declared.reference.Reference.{Reference}
use Rattle.register.specs.Sets.{Found}
use Rattle.register.specs.Spelling.{spelling}
use Rattle.book.specs.declared.faults.BookFault.{BookFault}
use Rattle.book.specs.Book.{Records}
use Rattle.book.specs.Orders.{Ordered}
use Rattle.book.specs.Questions.{refusal, subject}
use Rattle.book.specs.Desk.{told, record_of}
use Rattle.book.specs.Judging.{answered, fault, Judges}
use Rattle.book.proofs.Leading.{alike_view, led_by, led_on}

-- a check that refuses is the answer, as `?` carries it up; and one that does not leaves the number
pub refused_as : (check : Result (Unit {0}) BookFault) (f : BookFault) (x : Option BookFault) (n : Option ℕ) (a : Result (Option ℕ) BookFault) → refusal check ≡ x → check ≡ Err f → IsErrAnd a (λ e. e ≡ f) → a ≡ answered x n
refused_as check f x n a e was is =
    let p = err_from_is_err_and a is in
    p.1 ∙ ap {B = Result (Option ℕ) BookFault} Err p.2 ∙ ap (λ (y : Option BookFault). answered y n) (sym (ap refusal was) ∙ e)

pub passed_as : (check : Result (Unit {0}) BookFault) (u : Unit {0}) (x : Option BookFault) (n : Option ℕ) → refusal check ≡ x → check ≡ Ok u → Ok n ≡ answered x n
passed_as check u x n e was = ap (λ (y : Option BookFault). answered y n) (sym (ap refusal was) ∙ e)

module _ {X : Type 0} (R : Register.Ghosts X) (rs : Records) where
  -- after one look-up
  pub judges_once : (r : X) (q : Reference) (n : Option ℕ) (r' : X) → R.room r' ≡ R.room r → (R.ordered r → R.ordered r') → (R.ordered r → Found (R.pairs r) (R.pairs r') (spelling q) n) → R.rule r (Find q) (Number n) r' → (o : Ordered) (a : Result (Option ℕ) BookFault) → (R.ordered r → n ≡ (told R r).find (spelling q) → a ≡ answered (fault R r rs o) (record_of (told R r) (subject o))) → Judges R r rs o a r'
  judges_once r q n r' fixed keeps finds ruled o a answer = record {
    led = led_by R r (Find q) (Number n) r' fixed ruled;
    keeps = keeps;
    same = λ h. alike_view (R.pairs r) (R.pairs r') (finds h).same;
    answer = λ h. answer h (finds h).answer;
  }

  -- after two
  pub judges_twice : (r : X) (q : Reference) (n : Option ℕ) (r' : X) → R.room r' ≡ R.room r → (R.ordered r → R.ordered r') → (R.ordered r → Found (R.pairs r) (R.pairs r') (spelling q) n) → R.rule r (Find q) (Number n) r' → (p : Reference) (m : Option ℕ) (r'' : X) → R.room r'' ≡ R.room r' → (R.ordered r' → R.ordered r'') → (R.ordered r' → Found (R.pairs r') (R.pairs r'') (spelling p) m) → R.rule r' (Find p) (Number m) r'' → (o : Ordered) (a : Result (Option ℕ) BookFault) → (R.ordered r → n ≡ (told R r).find (spelling q) → m ≡ (told R r).find (spelling p) → a ≡ answered (fault R r rs o) (record_of (told R r) (subject o))) → Judges R r rs o a r''
  judges_twice r q n r' fixed keeps finds ruled p m r'' fixed' keeps' finds' ruled' o a answer = record {
    led = led_on R r r' r'' (led_by R r (Find q) (Number n) r' fixed ruled) (led_by R r' (Find p) (Number m) r'' fixed' ruled');
    keeps = λ h. keeps' (keeps h);
    same = λ h. alike_view (R.pairs r') (R.pairs r'') (finds' (keeps h)).same ∙ alike_view (R.pairs r) (R.pairs r') (finds h).same;
    answer = λ h. answer h (finds h).answer ((finds' (keeps h)).answer ∙ (finds h).same.looks (spelling p));
  }
