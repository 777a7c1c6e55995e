-- Folders: names and their numbers, rows that name modules, and sources one by one.
use Rattle.std.proofs.Common.{◌≡◌, ◌⊎◌, ◌<◌, ◌+◌, ℕ, zero, suc, Bool, true, false, not, cond, ◌&&◌, List, [], ◌∷◌, ◌++◌, length, map, take, get_or, Option, Some, None, slice_get, nat_lt, inl, inr, refl, sym, ap, subst, ◌∙◌, arith, append_assoc}
use Rattle.std.specs.List.{cons_option, filter_map, flat_map, list_all, position, position_or_len, prefix_len}
use Rattle.std.specs.Option.{option_map}
use Rattle.std.specs.Str.{bytes_eq}
use Rattle.std.proofs.lemmas.List.{append-nil, length-map, map-append, take_more}
use Rattle.std.proofs.lemmas.List.Concat.{flat_map-append}
use Rattle.std.proofs.lemmas.List.Elements.{filter_map-append}
use Rattle.std.proofs.lemmas.Option.{slice_get-map, slice_get_read}
use Rattle.py_tree.specs.Syntax.{Text}
use Rattle.py_tree.specs.Joined.{statement_of}
use Rattle.py_tree.specs.declared.statement.Stmt.{Stmt}
use Rattle.import_graph.specs.Imports.{rows_of}
use Rattle.import_graph.specs.declared.imports.ImportRow.{ImportRow}
use Rattle.import_graph.specs.declared.rows.DirectImport.{DirectImport}
use Rattle.import_graph.specs.Graph.{is_graph}
use Rattle.registry_core.specs.declared.sources.Sources.{Sources}
use Rattle.module_load.specs.declared.folder.ModuleFile.{ModuleFile}
use Rattle.module_load.specs.declared.source.Source.{Source}
use Rattle.module_load.specs.Sources.{State, plain, faulty, tree, state_of}
use Rattle.module_load.specs.Folders.{File, file_of, direct_import, direct_imports, names_of, states_of, graph_of, IsSource, AreSources, IsSources}
use Rattle.module_load.proofs.OneState.{one_state}

-- ---- the first place at which a test passes

prefix_len-map : {X Y : Type 0} (p : Y → Bool) (f : X → Y) (xs : List X) → prefix_len p (map f xs) ≡ prefix_len (λ x. p (f x)) xs
prefix_len-map p f [] = refl
prefix_len-map p f (x ∷ xs) = ap (λ (n : ℕ). cond (p (f x)) (1 + n) 0) (prefix_len-map p f xs)

pub position-map : {X Y : Type 0} (p : Y → Bool) (f : X → Y) (xs : List X) → position p (map f xs) ≡ position (λ x. p (f x)) xs
position-map p f xs =
    ap (λ (n : ℕ). cond (nat_lt n (length (map f xs))) (Some n) None) (prefix_len-map (λ y. not (p y)) f xs)
    ∙ ap (λ (n : ℕ). cond (nat_lt (position_or_len (λ x. p (f x)) xs) n) (Some (position_or_len (λ x. p (f x)) xs)) None) (length-map xs f)

-- the number of a name among those of sources
pub number_among : (name : Text) (list : List Source) → position (λ (s : Source). bytes_eq name s.name) list ≡ position (bytes_eq name) (names_of list)
number_among name list = sym (position-map (bytes_eq name) (λ (s : Source). s.name) list)

-- ---- each import of a row names a module

abbrev pub at : ℕ → ℕ → DirectImport
at line m = record { line = line; «module» = m }

kept : (test : DirectImport → Bool) (o : Option DirectImport) (rest : List DirectImport) → ((d : DirectImport) → o ≡ Some d → test d ≡ true) → list_all test rest ≡ true → list_all test (cons_option o rest) ≡ true
kept test None rest h e = e
kept test (Some d) rest h e = ap (λ b. b && list_all test rest) (h d refl) ∙ e

within : (count line place : ℕ) (b : Bool) (d : DirectImport) → nat_lt place count ≡ b → option_map (at line) (cond b (Some place) None) ≡ Some d → nat_lt d.module count ≡ true
within count line place true d e h = let same : at line place ≡ d = cc in ap (λ (i : DirectImport). nat_lt i.module count) (sym same) ∙ e
within count line place false d e h = absurd cc

named : (names : List Text) (row : ImportRow) (d : DirectImport) → direct_import names row ≡ Some d → nat_lt d.module (length names) ≡ true
named names row d h =
    let place = position_or_len (bytes_eq row.module) names in
    within (length names) row.line place (nat_lt place (length names)) d refl h

all_named : (names : List Text) (rows : List ImportRow) → list_all (λ i. nat_lt i.module (length names)) (filter_map (direct_import names) rows) ≡ true
all_named names [] = refl
all_named names (row ∷ rows) = kept (λ i. nat_lt i.module (length names)) (direct_import names row) (filter_map (direct_import names) rows) (named names row) (all_named names rows)

of_state : (names : List Text) (s : State) → list_all (λ i. nat_lt i.module (length names)) (direct_imports names s) ≡ true
of_state names plain = refl
of_state names (faulty f) = refl
of_state names (tree body) = all_named names _

of_states : (names : List Text) (states : List State) → list_all (list_all (λ i. nat_lt i.module (length names))) (map (direct_imports names) states) ≡ true
of_states names [] = refl
of_states names (s ∷ states) =
    ap (λ b. b && list_all (list_all (λ i. nat_lt i.module (length names))) (map (direct_imports names) states)) (of_state names s) ∙ of_states names states

pub graph_length : (list : List Source) → length (graph_of list) ≡ length list
graph_length list = length-map (states_of list) (direct_imports (names_of list)) ∙ length-map list (λ (s : Source). state_of s.state)

pub graph_whole : (list : List Source) → is_graph (graph_of list) ≡ true
graph_whole list =
    subst (λ (count : ℕ). list_all (list_all (λ i. nat_lt i.module count)) (graph_of list) ≡ true)
    (length-map list (λ (s : Source). s.name) ∙ sym (graph_length list))
    (of_states (names_of list) (states_of list))

-- ---- a row, import by import

pub kept_turn : {X Z Y : Type 0} (r : X → Z) (h : Z → Option Y) (xs : List X) (k : ℕ) (x : X) (first old new : List Y) → k < length xs → x ≡ get_or xs k x → new ≡ old ++ cons_option (h (r x)) []
    → old ≡ first ++ filter_map h (map r (take k xs)) → new ≡ first ++ filter_map h (map r (take (k + 1) xs))
kept_turn r h xs k x first old new l is e before =
    e ∙ ap (λ ys. ys ++ filter_map h (map r (x ∷ []))) before
    ∙ append_assoc first (filter_map h (map r (take k xs))) (filter_map h (map r (x ∷ [])))
    ∙ ap (λ ys. first ++ ys) (sym (filter_map-append h (map r (take k xs)) (map r (x ∷ []))))
    ∙ ap (λ zs. first ++ filter_map h zs) (sym (map-append r (take k xs) (x ∷ [])))
    ∙ ap (λ y. first ++ filter_map h (map r (take k xs ++ y ∷ []))) is
    ∙ ap (λ ys. first ++ filter_map h (map r ys)) (sym (take_more xs k x l))

-- ---- a row, statement by statement

-- the imports of these statements that name one of these modules
abbrev pub direct_in : List Text → List Stmt → List DirectImport
direct_in names ss = filter_map (direct_import names) (flat_map rows_of (map statement_of ss))

direct_in-append : (names : List Text) (xs ys : List Stmt) → direct_in names (xs ++ ys) ≡ direct_in names xs ++ direct_in names ys
direct_in-append names xs ys =
    ap (λ ss. filter_map (direct_import names) (flat_map rows_of ss)) (map-append statement_of xs ys)
    ∙ ap (filter_map (direct_import names)) (flat_map-append rows_of (map statement_of xs) (map statement_of ys))
    ∙ filter_map-append (direct_import names) (flat_map rows_of (map statement_of xs)) (flat_map rows_of (map statement_of ys))

pub direct_turn : (names : List Text) (ss : List Stmt) (k : ℕ) (s : Stmt) (old new : List DirectImport) → k < length ss → s ≡ get_or ss k s → new ≡ old ++ filter_map (direct_import names) (rows_of (statement_of s))
    → old ≡ direct_in names (take k ss) → new ≡ direct_in names (take (k + 1) ss)
direct_turn names ss k s old new l is e before =
    e ∙ ap (λ ds. ds ++ filter_map (direct_import names) (rows_of (statement_of s))) before
    ∙ ap (λ rows. direct_in names (take k ss) ++ filter_map (direct_import names) rows) (sym (append-nil (rows_of (statement_of s))))
    ∙ sym (direct_in-append names (take k ss) (s ∷ []))
    ∙ ap (λ y. direct_in names (take k ss ++ y ∷ [])) is
    ∙ ap (direct_in names) (sym (take_more ss k s l))

-- ---- sources, one by one

-- the file of this turn
pub file_there : (files : List ModuleFile) (k : ℕ) (file : ModuleFile) → k < length files → file ≡ get_or files k file → slice_get (map file_of files) k ≡ Some (file_of file)
file_there files k file l is = slice_get-map file_of files k ∙ ap (option_map file_of) (slice_get_read files (length files) k file refl l is)

last_or_before : {X : Type 0} (xs : List X) (x y : X) (k : ℕ) → slice_get (xs ++ x ∷ []) k ≡ Some y → (slice_get xs k ≡ Some y) ⊎ ((k ≡ length xs) × (x ≡ y))
last_or_before [] x y zero h = inr (refl, cc)
last_or_before [] x y (suc k) h = absurd cc
last_or_before (a ∷ xs) x y zero h = inl h
last_or_before (a ∷ xs) x y (suc k) h = either (last_or_before xs x y k h)
  where
    either : (slice_get xs k ≡ Some y) ⊎ ((k ≡ length xs) × (x ≡ y)) → (slice_get xs k ≡ Some y) ⊎ ((suc k ≡ suc (length xs)) × (x ≡ y))
    either (inl e) = inl e
    either (inr e) = inr (ap suc e.0, e.1)

-- what is known of sources by their places
abbrev pub Each : List File → List Source → Type 0
Each files list = (k : ℕ) (file : File) (source : Source) → slice_get files k ≡ Some file → slice_get list k ≡ Some source → IsSource file source

pub one_more : (files : List File) (list new : List Source) (file : File) (source : Source) → Each files list → slice_get files (length list) ≡ Some file → IsSource file source → new ≡ list ++ source ∷ [] → Each files new
one_more files list new file source before there is e = λ k f s p q. go k f s p (last_or_before list source s k (ap (λ (xs : List Source). slice_get xs k) (sym e) ∙ q))
  where
    go : (k : ℕ) (f : File) (s : Source) → slice_get files k ≡ Some f → (slice_get list k ≡ Some s) ⊎ ((k ≡ length list) × (source ≡ s)) → IsSource f s
    go k f s p (inl q) = before k f s p q
    go k f s p (inr q) =
        let found : slice_get files k ≡ Some file = ap (slice_get files) q.0 ∙ there in
        let same : file ≡ f = cc in
        subst (λ (x : File). IsSource x s) same (subst (λ (x : Source). IsSource file x) q.1 is)

rest : (f : File) (files : List File) (s : Source) (list : List Source) → AreSources (f ∷ files) (s ∷ list) → AreSources files list
rest f files s list h = record { as_many = (let e = h.as_many in omega arith); each = λ k file source p q. h.each (suc k) file source p q }

same_list : (files : List File) (a b : List Source) → AreSources files a → AreSources files b → (names_of a ≡ names_of b) × (states_of a ≡ states_of b)
same_list [] [] [] h k = (refl, refl)
same_list [] (s ∷ a) b h k = let e = h.as_many in absurd (omega arith)
same_list [] [] (t ∷ b) h k = let e = k.as_many in absurd (omega arith)
same_list (f ∷ files) [] b h k = let e = h.as_many in absurd (omega arith)
same_list (f ∷ files) (s ∷ a) [] h k = let e = k.as_many in absurd (omega arith)
same_list (f ∷ files) (s ∷ a) (t ∷ b) h k =
    let x : IsSource f s = h.each 0 f s refl refl in
    let y : IsSource f t = k.each 0 f t refl refl in
    let more = same_list files a b (rest f files s a h) (rest f files t b k) in (
      ap (λ (n : Text). n ∷ names_of a) (x.name ∙ sym y.name) ∙ ap (λ (ns : List Text). t.name ∷ ns) more.0,
      ap (λ (n : State). n ∷ states_of a) (one_state f.1 (state_of s.state) (state_of t.state) x.state y.state) ∙ ap (λ (ns : List State). state_of t.state ∷ ns) more.1,
    )

pub one_folder : (files : List File) (a b : Sources Source) → IsSources files a → IsSources files b
    → (names_of a.list ≡ names_of b.list) × (states_of a.list ≡ states_of b.list) × (a.graph ≡ b.graph)
one_folder files a b h k =
    let same = same_list files a.list b.list h.list k.list in
    let graphs : graph_of a.list ≡ graph_of b.list =
    ap (λ (names : List Text). map (direct_imports names) (states_of a.list)) same.0 ∙ ap (λ (states : List State). map (direct_imports (names_of b.list)) states) same.1 in
    (same.0, same.1, h.graph ∙ graphs ∙ sym k.graph)
