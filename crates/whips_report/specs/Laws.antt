-- What an output takes, told in parts: an output that takes the text of some records, and then that of others, takes the text of all of them (written_more), and one that then fails takes a part of the whole (part_later). Both rest on the text of all records being the texts of the parts behind one another (records_join).
use Rattle.std.proofs.Common.{◌≡◌, ℕ, ◌+◌, ◌<◌, ◌≤◌, List, [], ◌∷◌, ◌++◌, length, take, sym, ap, ◌∙◌, subst, length-append, arith}
use Rattle.std.proofs.KnownBytes.{Appends-nil, Appends-trans}
use Rattle.std.proofs.Math.Seq.{take-append-add}
use Rattle.std.proofs.lemmas.Grind.{flat_map-append}
use Rattle.std.specs.Io.KnownBytes.{Appends}
use Rattle.whips_setup.specs.Setups.{SetupData}
use Rattle.whips_facts.specs.Scripts.{Script, Labels}
use Rattle.whips_reports.specs.Reported.{Reported}
use Rattle.whips_reports.specs.Lines.{record_lines, text_of}
use Rattle.whips_io.specs.Counts.{HasRisen}
use Rattle.whips_report.specs.Told.{Output, IsWritten, IsPartWritten, records_text}

pub records_join : (s : Script) (l : Labels) (rs ss : List Reported) → records_text s l (rs ++ ss) ≡ records_text s l rs ++ records_text s l ss
records_join s l rs ss = ap text_of (flat_map-append (record_lines s l) rs ss) ∙ flat_map-append (λ line. line ++ 10 ∷ []) _ _

pub written_none : (l : Labels) (d : SetupData) (o : Output) → IsWritten l d [] o o
written_none l d o = record { text = λ s is. Appends-nil o.written; faults = omega arith }

pub written_more : (l l' : Labels) (d d' : SetupData) (rs ss : List Reported) (a b c : Output) → l' ≡ l → d' ≡ d → IsWritten l d rs a b → IsWritten l' d' ss b c → IsWritten l d (rs ++ ss) a c
written_more l l' d d' rs ss a b c el ed p q = record {
  text = λ s is.
      let rest : Appends b.written c.written (records_text s l ss) = subst (λ (m : Labels). Appends b.written c.written (records_text s m ss)) el (q.text s (is ∙ sym ed)) in
      subst (Appends a.written c.written) (sym (records_join s l rs ss)) (Appends-trans a.written b.written c.written _ _ (p.text s is) rest);
  faults = omega (arith, p.faults, q.faults);
}

-- a count that stayed or rose, and then rose, has risen
risen_later : (a b c : ℕ) → a ≤ b → HasRisen b c → HasRisen a c
risen_later a b c p q = omega (arith, p, q)

pub part_later : (l l' : Labels) (d d' : SetupData) (rs ss : List Reported) (a b c : Output) → l' ≡ l → d' ≡ d → IsWritten l d rs a b → IsPartWritten l' d' ss b c → IsPartWritten l d (rs ++ ss) a c
part_later l l' d d' rs ss a b c el ed p q = record {
  part = λ s is.
      let part = subst (λ (m : Labels). (n : ℕ) × (n < length (records_text s m ss)) × Appends b.written c.written (take n (records_text s m ss))) el (q.part s (is ∙ sym ed)) in
      let front = records_text s l rs in
      let end = records_text s l ss in
      let all : records_text s l (rs ++ ss) ≡ front ++ end = records_join s l rs ss in
      let whole : take (length front + part.0) (records_text s l (rs ++ ss)) ≡ front ++ take part.0 end = ap (take (length front + part.0)) all ∙ take-append-add front end part.0 in (
        length front + part.0,
        omega (arith, part.1, ap length all, length-append front end),
        subst (Appends a.written c.written) (sym whole) (Appends-trans a.written b.written c.written front (take part.0 end) (p.text s is) part.2),
      );
  risen = risen_later a.faults b.faults c.faults p.faults q.risen;
}
