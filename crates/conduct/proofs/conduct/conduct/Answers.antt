-- The run grows by one call at a time.
use Rattle.std.proofs.Common.{◌≡◌, ℕ, ◌<◌, min, [], length, get_or, Some, Option, sym, refl, ap, ◌∙◌, subst, subst₂, arith}
use Rattle.std.proofs.lemmas.Option.{slice_get-get_or}
use Rattle.tally.specs.Scale.{Scale}
use Rattle.book.specs.Book.{Situation}
use Rattle.book.specs.Storage.{Filed}
use Rattle.book.specs.Desk.{situation}
use Rattle.book.proofs.Leading.{led_here, led_on}
use Rattle.book.proofs.Places.{nth_set_apart}
use Rattle.meeting.specs.Notices.{Notice, drafted}
use Rattle.meeting.specs.Opening.{Opened}
use Rattle.conduct.specs.declared.call.Call.{Call}
use Rattle.conduct.specs.declared.call.Call.TheVariants.{Take}
use Rattle.conduct.specs.declared.call.Answer.{Answer}
use Rattle.conduct.specs.Run.{Meter, Terms, Called, Conducted, Orderly}
use Rattle.conduct.specs.Conducting.{over, notice_of, Goes, Given, meter, terms}
use Rattle.conduct.proofs.Counts.{filed_opened}
use Rattle.conduct.proofs.Closings.{since_more, orderly_more, unorderly}
use Rattle.conduct.proofs.Runs.{run_opened, run_more, filed_called}
use Rattle.conduct.proofs.conduct.conduct.Goals as goal

-- what stands where no call is
no_call : Call
no_call = Take 0 (record { ref_ptr = (0, 0); now = [] })

-- the same notice, the same room and the same table
same_terms : (n n' : Notice) (a a' b b' e e' : ℕ) → n ≡ n' → a ≡ a' → b ≡ b' → e ≡ e' → ◌≡◌ {A = Terms} (record { notice = n; room = min a b; entries = e }) (record { notice = n'; room = min a' b'; entries = e' })
same_terms n n' a a' b b' e e' p q r s =
    ap (λ (x : Notice). record { notice = x; room = min a b; entries = e }) p
    ∙ ap (λ (x : ℕ). record { notice = n'; room = min x b; entries = e }) q
    ∙ ap (λ (x : ℕ). record { notice = n'; room = min a' x; entries = e }) r
    ∙ ap (λ (x : ℕ). record { notice = n'; room = min a' b'; entries = x }) s

same_meter : {V : Type 0} (f : V → ℕ → ℕ → Option ℕ) (t : V → Option ℕ) (a b : Scale V) → a ≡ b → ◌≡◌ {A = Meter V} (record { scale = a; figure = f; total = t }) (record { scale = b; figure = f; total = t })
same_meter {V} f t a b e = ap (λ (x : Scale V). record { scale = x; figure = f; total = t }) e

pub loop-k-init : goal.loop-k-init
loop-k-init g c =
    let s : Situation g.T.Tally.Value = situation g.R.Register g.T.Tally c.open.new.register c.open.new.tally c.open.new.records in
    let o = subst (λ (x : Scale g.T.Tally.Value). Opened x s) (sym c.open.ensures.scale) c.open.ensures.opened in
    record {
      led = led_here g.R.Register c.open.new.register;
      scale = refl;
      notice = refl;
      records = refl;
      table = refl;
      ordered = c.open.ensures.ordered;
      filed = filed_opened (g.T.Tally.scale c.open.new.tally) s o;
      rest = λ j h. refl;
      since = λ j h. absurd (omega arith);
      orderly = λ j k d lt h. absurd (omega arith);
      run = run_opened (meter g.R.Register g.T.Tally c.open.new.tally) (terms g.R.Register g.T.Tally (Rattle.meeting.specs.Notices.convened c.open.result) c.open.new.register c.open.new.records (length c.args.table.now)) c.args.calls.now c.args.answers.now s o;
    }

pub loop-k-preserved : goal.loop-k-preserved
unfolding no_call
loop-k-preserved g c =
    let s : Situation g.T.Tally.Value = situation g.R.Register g.T.Tally c.loop-k.register c.loop-k.tally c.loop-k.records in
    let t : Situation g.T.Tally.Value = situation g.R.Register g.T.Tally c.put-next.new.register c.put-next.new.tally c.put-next.new.records in
    let within : c.loop-k.k < length c.args.calls.now = omega arith in
    let call : Call = get_or c.args.calls.now c.loop-k.k no_call in
    let here = slice_get-get_or c.args.calls.now c.loop-k.k no_call within in
    let h = c.put-next.ensures.puts c.loop-k.invariant.ordered c.loop-k.invariant.filed in
    let room : c.loop-k.k < length c.loop-k.answers = omega arith in
    let goes = subst (λ (x : Option Answer). Goes (over c.loop-k.phase) call x (over c.put-next.result.0)) c.in-Some.is c.put-next.ensures.goes in
    let m : Meter g.T.Tally.Value = meter g.R.Register g.T.Tally c.loop-k.tally in
    let w : Terms = terms g.R.Register g.T.Tally (notice_of c.loop-k.phase) c.loop-k.register c.loop-k.records (length c.loop-k.table) in
    let step : Called m w s call c.in-Some.answer t = subst (λ (x : Option Answer). Given m w s call x t) c.in-Some.is h.1 in
    let same-m = same_meter g.T.Tally.figure_in g.T.Tally.total_in (g.T.Tally.scale c.loop-k.tally) (g.T.Tally.scale c.open.new.tally) c.loop-k.invariant.scale in
    let same_w = same_terms (notice_of c.loop-k.phase) _ (length c.loop-k.records) _ (g.R.Register.room c.loop-k.register) _ (length c.loop-k.table) _ c.loop-k.invariant.notice c.loop-k.invariant.records c.loop-k.invariant.led.fixed c.loop-k.invariant.table in
    let step' = subst₂ (λ (x : Meter g.T.Tally.Value) (y : Terms). Called x y s call c.in-Some.answer t) same-m same_w step in
    record {
      led = led_on g.R.Register c.open.new.register c.loop-k.register c.put-next.new.register c.loop-k.invariant.led c.put-next.ensures.led;
      scale = c.put-next.ensures.scale ∙ c.loop-k.invariant.scale;
      notice = c.put-next.ensures.notice ∙ c.loop-k.invariant.notice;
      records = omega arith;
      table = omega arith;
      ordered = h.0;
      filed = subst (λ (x : Scale g.T.Tally.Value). Filed x t) (sym c.put-next.ensures.scale) (filed_called m w s t call c.in-Some.answer c.loop-k.invariant.filed step);
      rest = λ j h. nth_set_apart c.loop-k.answers c.loop-k.k j c.in-Some.answer (λ e. omega arith) ∙ c.loop-k.invariant.rest j (omega arith);
      since = since_more c.args.calls.now c.loop-k.k call here _ _ (Some c.in-Some.answer) goes c.loop-k.invariant.since;
      orderly = orderly_more c.args.calls.now c.loop-k.k call here _ _ c.in-Some.answer goes c.loop-k.invariant.since c.loop-k.invariant.orderly;
      run = run_more _ _ c.args.calls.now c.loop-k.answers c.loop-k.k s t call c.in-Some.answer c.loop-k.invariant.run here room step';
    }

pub returns-in-None : goal.returns-in-None
unfolding no_call
returns-in-None g c =
    let s : Situation g.T.Tally.Value = situation g.R.Register g.T.Tally c.loop-k.register c.loop-k.tally c.loop-k.records in
    let t : Situation g.T.Tally.Value = situation g.R.Register g.T.Tally c.put-next.new.register c.put-next.new.tally c.put-next.new.records in
    let within : c.loop-k.k < length c.args.calls.now = omega arith in
    let call : Call = get_or c.args.calls.now c.loop-k.k no_call in
    let here = slice_get-get_or c.args.calls.now c.loop-k.k no_call within in
    let h = c.put-next.ensures.puts c.loop-k.invariant.ordered c.loop-k.invariant.filed in
    let goes = subst (λ (x : Option Answer). Goes (over c.loop-k.phase) call x (over c.put-next.result.0)) c.in-None.is c.put-next.ensures.goes in
    let m : Meter g.T.Tally.Value = meter g.R.Register g.T.Tally c.loop-k.tally in
    let w : Terms = terms g.R.Register g.T.Tally (notice_of c.loop-k.phase) c.loop-k.register c.loop-k.records (length c.loop-k.table) in
    let stays : t ≡ s = subst (λ (x : Option Answer). Given m w s call x t) c.in-None.is h.1 in
    let len : length c.open.new.records ≡ length c.args.records.now = omega arith in
    let same-m = same_meter g.T.Tally.figure_in g.T.Tally.total_in (g.T.Tally.scale c.open.new.tally) (g.T.Tally.scale c.args.tally.now) c.open.ensures.scale in
    let same_w = same_terms _ (drafted c.args.draft) (length c.open.new.records) (length c.args.records.now) (g.R.Register.room c.open.new.register) (g.R.Register.room c.args.register.now) (length c.args.table.now) (length c.args.table.now) c.open.ensures.notice len c.open.ensures.led.fixed refl in
    record {
      made = record {
        few = omega arith;
        orderly = c.loop-k.invariant.orderly;
        all = λ _. unorderly c.args.calls.now c.loop-k.k call here _ _ goes c.loop-k.invariant.since;
      };
      rest = c.loop-k.invariant.rest;
      led = led_on g.R.Register c.args.register.now c.open.new.register c.put-next.new.register c.open.ensures.led (led_on g.R.Register c.open.new.register c.loop-k.register c.put-next.new.register c.loop-k.invariant.led c.put-next.ensures.led);
      run = subst (λ (x : Situation g.T.Tally.Value). Conducted (meter g.R.Register g.T.Tally c.args.tally.now) (terms g.R.Register g.T.Tally (drafted c.args.draft) c.args.register.now c.args.records.now (length c.args.table.now)) c.args.calls.now c.loop-k.answers c.loop-k.k x) (sym stays)
          (subst₂ (λ (x : Meter g.T.Tally.Value) (y : Terms). Conducted x y c.args.calls.now c.loop-k.answers c.loop-k.k s) same-m same_w c.loop-k.invariant.run);
    }

pub returns : goal.returns
returns g c =
    let s : Situation g.T.Tally.Value = situation g.R.Register g.T.Tally c.loop-k.register c.loop-k.tally c.loop-k.records in
    let all : c.loop-k.k ≡ c.answerable-n.result = omega arith in
    let len : length c.open.new.records ≡ length c.args.records.now = omega arith in
    let same-m = same_meter g.T.Tally.figure_in g.T.Tally.total_in (g.T.Tally.scale c.open.new.tally) (g.T.Tally.scale c.args.tally.now) c.open.ensures.scale in
    let same_w = same_terms _ (drafted c.args.draft) (length c.open.new.records) (length c.args.records.now) (g.R.Register.room c.open.new.register) (g.R.Register.room c.args.register.now) (length c.args.table.now) (length c.args.table.now) c.open.ensures.notice len c.open.ensures.led.fixed refl in
    record {
      made = record {
        few = omega arith;
        orderly = subst (Orderly c.args.calls.now) all c.loop-k.invariant.orderly;
        all = λ h _. omega arith;
      };
      rest = λ j h. c.loop-k.invariant.rest j (omega arith);
      led = led_on g.R.Register c.args.register.now c.open.new.register c.loop-k.register c.open.ensures.led c.loop-k.invariant.led;
      run = subst (λ (n : ℕ). Conducted (meter g.R.Register g.T.Tally c.args.tally.now) (terms g.R.Register g.T.Tally (drafted c.args.draft) c.args.register.now c.args.records.now (length c.args.table.now)) c.args.calls.now c.loop-k.answers n s) all
          (subst₂ (λ (x : Meter g.T.Tally.Value) (y : Terms). Conducted x y c.args.calls.now c.loop-k.answers c.loop-k.k s) same-m same_w c.loop-k.invariant.run);
    }
