-- Laws of Output. Assumes nothing.
use Rattle.std.specs.Prelude.{ℕ, ◌≡◌, Bool, true, false, List, [], ◌∷◌, ◌++◌}
use Rattle.std.proofs.Common.{refl, sym, ap, subst, ◌∙◌}
use Rattle.std.specs.Io.KnownBytes.{Appends}
use Rattle.std.specs.List.{FoldsTo}
use Rattle.std.proofs.Output.{writes_in_calls_nil, writes_in_calls_single, writes_in_calls_append}
use Rattle.std.proofs.KnownBytes.{Appends-nil, Appends-trans}
use Rattle.streams.specs.Output.{marks_on, to_stdout, Step, ByWrites, stdout_of, Hands, HandedOver}
use Rattle.streams.specs.laws.Mark.{marked_none, marked_append}
use Rattle.streams.specs.declared.output.Stream.{Stream}
use Rattle.streams.specs.declared.output.Stream.TheVariants.{Stdout, Stderr}
use Rattle.streams.specs.declared.output.Marks.{Marks}
use Rattle.streams.specs.declared.output.Handed.{Handed}
use Rattle.streams.specs.declared.output.Console.{Console}
use Rattle.streams.specs.declared.sink.Sink.{Ghosts}

-- an empty text changes no marks
pub marks_none : (before : Marks) (to : Stream) → before ≡ marks_on before to []
marks_none before Stdout = ap (λ (m : ℕ). record { stdout = m; stderr = before.stderr }) (marked_none before.stdout)
marks_none before Stderr = ap (λ (m : ℕ). record { stdout = before.stdout; stderr = m }) (marked_none before.stderr)

-- after a failed write nothing is written
kept_after : {W : Type 0} (sink : Ghosts W) (w : W) (parts : List (List ℕ)) (after : Bool × W) → FoldsTo (Step sink) (true, w) parts after → after ≡ (true, w)
kept_after sink w [] after h = sym h
kept_after sink w (x ∷ parts) after h = kept_after sink w parts after (subst (λ s. FoldsTo (Step sink) s parts after) h.1 h.2)

-- where no write of a writer fails, none has failed
none_fails : {W : Type 0} (sink : Ghosts W) → ((w : W) (text : List ℕ) (failed : Bool) (v : W) → sink.put_gives w text failed v → failed ≡ false)
    → (w : W) (parts : List (List ℕ)) (after : Bool × W) → FoldsTo (Step sink) (false, w) parts after → after.0 ≡ false
none_fails sink sound w [] after h = ap (λ s. s.0) (sym h)
none_fails sink sound w (x ∷ parts) after h =
    let next = h.0 in
    none_fails sink sound next.1 parts after
    (subst (λ (failed : Bool). FoldsTo (Step sink) (failed, next.1) parts after) (sound w x next.0 next.1 h.1) h.2)

module _ {W : Type 0} (sink : Ghosts W) where
  -- a text that comes after a failed write is not written ..
  pub unwritten : (failed : Bool) (w : W) (text : List ℕ) → failed ≡ true → ByWrites sink (failed, w) text (failed, w)
  unwritten failed w text h = writes_in_calls_single (Step sink) _ text _ (subst (λ (f : Bool). Step sink (f, w) text (f, w)) (sym h) refl)

  -- .. and any other by one write
  pub put_written : (failed : Bool) (w : W) (text : List ℕ) (fails : Bool) (v : W) → failed ≡ false → sink.put_gives w text fails v → ByWrites sink (failed, w) text (fails, v)
  put_written failed w text fails v h p = writes_in_calls_single (Step sink) _ text _ (subst (λ (f : Bool). Step sink (f, w) text (fails, v)) (sym h) p)

module _ {W E : Type 0} (sink : Ghosts W) where
  -- nothing is handed over
  pub hands_none : (a : Console W E) (to : Stream) → Hands sink a a to []
  hands_none a Stdout = record {
    marks = marks_none a.handed.marks Stdout;
    same = refl;
    writes = writes_in_calls_nil (Step sink) (stdout_of a);
    arrives = λ h. (h, Appends-nil (sink.contents a.output.now));
  }
  hands_none a Stderr = record {
    marks = marks_none a.handed.marks Stderr;
    same = refl;
    writes = writes_in_calls_nil (Step sink) (stdout_of a);
    arrives = λ h. (h, Appends-nil (sink.contents a.output.now));
  }

  -- nor where only the writer of errors is lent
  pub hands_kept : (a b : Console W E) → b.handed ≡ a.handed → b.output ≡ a.output → Hands sink a b Stdout []
  hands_kept a b h o = record {
    marks = ap (λ (k : Handed). k.marks) h ∙ marks_none a.handed.marks Stdout;
    same = ap (λ w. w.ghost_name) o;
    writes = subst (ByWrites sink (stdout_of a) []) (λ i. ((sym h i).has_failed, (sym o i).now)) (writes_in_calls_nil (Step sink) (stdout_of a));
    arrives = λ k. (ap (λ (k : Handed). k.has_failed) (sym h) ∙ k, subst (λ w. Appends (sink.contents a.output.now) (sink.contents w.now) []) (sym o) (Appends-nil (sink.contents a.output.now)));
  }

  -- one text after another to standard output is the two as one
  pub hands_more : (a b c : Console W E) (text more : List ℕ) → Hands sink a b Stdout text → Hands sink b c Stdout more → Hands sink a c Stdout (text ++ more)
  hands_more a b c text more p q = record {
    marks = q.marks ∙ ap (λ (m : Marks). marks_on m Stdout more) p.marks ∙ ap (λ (m : ℕ). record { stdout = m; stderr = a.handed.marks.stderr }) (marked_append a.handed.marks.stdout text more);
    same = q.same ∙ p.same;
    writes = writes_in_calls_append (Step sink) (stdout_of a) text (stdout_of b) more (stdout_of c) p.writes q.writes;
    arrives = λ h. let k = q.arrives h in let l = p.arrives k.0 in (l.0, Appends-trans _ _ _ text more l.1 k.1);
  }

  -- after nothing
  pub hands_after : (a b c : Console W E) (to : Stream) (text : List ℕ) → Hands sink a b Stdout [] → Hands sink b c to text → Hands sink a c to text
  hands_after a b c to text p q = record {
    marks = q.marks ∙ ap (λ (m : Marks). marks_on m to text) (p.marks ∙ sym (marks_none a.handed.marks Stdout));
    same = q.same ∙ p.same;
    writes = writes_in_calls_append (Step sink) (stdout_of a) [] (stdout_of b) (to_stdout to text) (stdout_of c) p.writes q.writes;
    arrives = λ h. let k = q.arrives h in let l = p.arrives k.0 in (l.0, Appends-trans _ _ _ [] (to_stdout to text) l.1 k.1);
  }

  -- after a failed write nothing is written
  pub hands_nothing : (a b : Console W E) (to : Stream) (text : List ℕ) → Hands sink a b to text → a.handed.has_failed ≡ true
      → (b.handed.has_failed ≡ true) × (b.output.now ≡ a.output.now)
  hands_nothing a b to text p failed =
      let calls = subst (λ (f : Bool). FoldsTo (Step sink) (f, a.output.now) p.writes.parts (stdout_of b)) failed p.writes.calls in
      let kept = kept_after sink a.output.now p.writes.parts (stdout_of b) calls in
      (ap (λ s. s.0) kept, ap (λ s. s.1) kept)

-- to a writer whose writes never fail all arrives
pub all_arrives : {W : Type 0} (sink : Ghosts W) → ((w : W) (text : List ℕ) (failed : Bool) (v : W) → sink.put_gives w text failed v → failed ≡ false)
    → (held holds : W) (handed : Handed) (to : Stream) (text : List ℕ) → HandedOver sink held holds handed to text
    → (handed.has_failed ≡ false) × Appends (sink.contents held) (sink.contents holds) (to_stdout to text)
all_arrives sink sound held holds handed to text p =
    let h = none_fails sink sound held p.writes.parts (handed.has_failed, holds) p.writes.calls in
    (h, p.arrives h)
