-- A register led on by its own rule: one call, and one list of calls behind another.
use Rattle.std.proofs.Common.{◌≡◌, ℕ, List, [], ◌∷◌, ◌++◌, Option, sym, refl, ap, ◌∙◌, subst, MutBor}
use mathlib.Core.Path.{fun_ext}
use Rattle.register.specs.declared.interface.Register as Register
use Rattle.register.specs.declared.call.Call.{Call}
use Rattle.register.specs.declared.call.Answer.{Answer}
use Rattle.register.specs.Pairs.{Pair, look}
use Rattle.register.specs.Sets.{Alike}
use Rattle.register.specs.Runs.{view_of, Ran}
use Rattle.tally.specs.declared.interface.Tally as Tally
use Rattle.book.specs.declared.desk.Desk.{Desk}
use Rattle.book.specs.Desk.{Led, Served}

-- sets that are alike are one view
pub alike_view : (ps qs : List Pair) → Alike ps qs → view_of qs ≡ view_of ps
alike_view ps qs a =
    ap (λ (f : List ℕ → Option ℕ). record { find = f; size = lib.ListN.length qs }) (fun_ext a.looks)
    ∙ ap (λ (n : ℕ). record { find = look ps; size = n }) a.size

module _ {X : Type 0} (rule : X → Call → Answer → X → Type 0) where
  ran_on : (r s t : X) (cs : List Call) (xs : List Answer) → Ran rule r cs xs s → (ds : List Call) (ys : List Answer) → Ran rule s ds ys t → Ran rule r (cs ++ ds) (xs ++ ys) t
  ran_on r s t [] [] e ds ys k = subst (λ (x : X). Ran rule x ds ys t) e k
  ran_on r s t [] (x ∷ xs) e ds ys k = absurd e
  ran_on r s t (c ∷ cs) [] e ds ys k = absurd e
  ran_on r s t (c ∷ cs) (x ∷ xs) e ds ys k = (e.0, (e.1.0, ran_on e.0 s t cs xs e.1.1 ds ys k))

module _ {X : Type 0} (R : Register.Ghosts X) where
  pub led_here : (r : X) → Led R r r
  led_here r = record { fixed = refl; reached = ([], [], refl) }

  pub led_on : (r s t : X) → Led R r s → Led R s t → Led R r t
  led_on r s t a b = record {
    fixed = b.fixed ∙ a.fixed;
    reached = (a.reached.0 ++ b.reached.0, a.reached.1 ++ b.reached.1, ran_on R.rule r s t a.reached.0 a.reached.1 a.reached.2 b.reached.0 b.reached.1 b.reached.2);
  }

  pub led_by : (r : X) (c : Call) (a : Answer) (s : X) → R.room s ≡ R.room r → R.rule r c a s → Led R r s
  led_by r c a s e k = record { fixed = e; reached = (c ∷ [], a ∷ [], (s, (k, refl))) }

module _ {X Y : Type 0} (R : Register.Ghosts X) (T : Tally.Ghosts Y) where
  pub served_here : (d : Desk X Y) → Served R T d d
  served_here d = record { register = refl; tally = refl; records = refl; led = led_here R d.register.now; scale = refl }

  -- a call that leaves the register and the tally as they were
  pub served_still : (d e : Desk X Y) → e.register ≡ d.register → e.tally ≡ d.tally → e.records.ghost_name ≡ d.records.ghost_name → Served R T d e
  served_still d e register tally records = record {
    register = ap (λ (r : MutBor X). r.ghost_name) register;
    tally = ap (λ (t : MutBor Y). t.ghost_name) tally;
    records = records;
    led = subst (λ (r : X). Led R d.register.now r) (sym (ap (λ (r : MutBor X). r.now) register)) (led_here R d.register.now);
    scale = ap (λ (t : MutBor Y). T.scale t.now) tally;
  }

  -- a call on the register alone
  pub served_led : (d : Desk X Y) (r : X) → Led R d.register.now r → Served R T d (record d { register = record d.register { now = r } })
  served_led d r led = record { register = refl; tally = refl; records = refl; led = led; scale = refl }

  pub served_on : (d e f : Desk X Y) → Served R T d e → Served R T e f → Served R T d f
  served_on d e f a b = record {
    register = b.register ∙ a.register;
    tally = b.tally ∙ a.tally;
    records = b.records ∙ a.records;
    led = led_on R d.register.now e.register.now f.register.now a.led b.led;
    scale = b.scale ∙ a.scale;
  }
