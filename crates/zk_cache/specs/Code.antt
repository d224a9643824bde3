-- The code of what a cache keeps, by which a proof tells two such values apart.
use Rattle.std.specs.Prelude.{◌≡◌, ℕ, ℤ, Bool, true, false, List, Option, Some, None, refl}
use Rattle.std.specs.Coded.{Coded, code_by, coded×, coded_ℕ, coded_ℤ, coded_bool, coded_list, coded_option}
use Rattle.std.specs.FinMap as finite
use Rattle.std.specs.FinSet as set
use Rattle.zk_nodes.specs.Names.{Names as NameSet}
use Rattle.zk_nodes.specs.declared.data_stat.DataStat.{DataStat}
use Rattle.zk_cache.specs.declared.held.Mark.TheVariants.{Good, Stale}
use Rattle.zk_cache.specs.Kept.{Answer, Absent, Known, Full, Names, Kept, Mark}
use Rattle.zk_cache.specs.Look.{ByText}
use Rattle.zk_cache.specs.Cache.{Answers}

abbrev pub stat_code : Coded DataStat
stat_code =
    code_by (ℤ × (ℤ × (ℤ × (ℤ × (ℤ × (ℤ × ℤ))))))
    (coded× coded_ℤ (coded× coded_ℤ (coded× coded_ℤ (coded× coded_ℤ (coded× coded_ℤ (coded× coded_ℤ coded_ℤ))))))
    (λ s. (s.czxid, (s.mzxid, (s.ctime, (s.mtime, (s.version, (s.ephemeral_owner, s.data_length)))))))
    (λ p. record {
      czxid = p.0;
      mzxid = p.1.0;
      ctime = p.1.1.0;
      mtime = p.1.1.1.0;
      version = p.1.1.1.1.0;
      ephemeral_owner = p.1.1.1.1.1.0;
      data_length = p.1.1.1.1.1.1;
    })
    (λ _. refl)

abbrev pub bool_of_mark : Mark → Bool
bool_of_mark Good = true
bool_of_mark Stale = false

abbrev pub mark_of_bool : Bool → Mark
mark_of_bool true = Good
mark_of_bool false = Stale

abbrev pub mark_again : (mark : Mark) → mark_of_bool (bool_of_mark mark) ≡ mark
mark_again Good = refl
mark_again Stale = refl

abbrev pub mark_code : Coded Mark
mark_code = code_by Bool coded_bool bool_of_mark mark_of_bool mark_again

abbrev pub kept_code : {A : Type 0} → Coded A → Coded (Kept A)
kept_code {A} code =
    code_by (A × Mark) (coded× code mark_code) (λ kept. (kept.answer, kept.mark)) (λ p. record { answer = p.0; mark = p.1 }) (λ _. refl)

abbrev pub parts_of_answer : Answer → Option (DataStat × Option (Option (List ℕ)))
parts_of_answer Absent = None
parts_of_answer (Known stat) = Some (stat, None)
parts_of_answer (Full bytes stat) = Some (stat, Some bytes)

abbrev pub answer_of_stat : DataStat → Option (Option (List ℕ)) → Answer
answer_of_stat stat None = Known stat
answer_of_stat stat (Some bytes) = Full bytes stat

abbrev pub answer_of_parts : Option (DataStat × Option (Option (List ℕ))) → Answer
answer_of_parts None = Absent
answer_of_parts (Some parts) = answer_of_stat parts.0 parts.1

abbrev pub answer_again : (answer : Answer) → answer_of_parts (parts_of_answer answer) ≡ answer
answer_again Absent = refl
answer_again (Known stat) = refl
answer_again (Full bytes stat) = refl

abbrev pub answer_code : Coded Answer
answer_code = code_by (Option (DataStat × Option (Option (List ℕ))))
    (coded_option (coded× stat_code (coded_option (coded_option (coded_list coded_ℕ))))) parts_of_answer answer_of_parts answer_again

abbrev pub names_code : Coded Names
names_code = code_by (NameSet × ℤ) (coded× (set.code (coded_list coded_ℕ)) coded_ℤ) (λ n. (n.names, n.pzxid))
    (λ p. record { names = p.0; pzxid = p.1 }) (λ _. refl)

abbrev pub answers_code : Coded Answers
answers_code =
    code_by (ByText (Kept Answer) × ByText (Kept Names))
    (coded× (finite.code (coded_list coded_ℕ) (kept_code answer_code)) (finite.code (coded_list coded_ℕ) (kept_code names_code)))
    (λ k. (k.data_answers, k.child_answers)) (λ p. record { data_answers = p.0; child_answers = p.1 }) (λ _. refl)
