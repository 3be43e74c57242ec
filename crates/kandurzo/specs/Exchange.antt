-- What the planner and the research group are promised of read_dimacs and write_dimacs (document 02, item 1). A statement is a type; proofs/Promises.antt has
-- a theorem for each, of the same name in small letters. Those of DIMACS files alone are in crate dimacs, specs/Promise.antt.
--   EveryListWritten      write_dimacs writes every list
--   WrittenRead            a list of ones that is written and read is the same list
--   ReadRewritten          an accepted file without comments, in list order and with the smaller module first, is rewritten byte for byte
--   CommentsUnread         taking the comments out of a file changes neither its number nor its list
--   ReadDimacsExact       the pairs held after a file is taken are exactly those named, less 1
--   EveryDimacsRead       every file of different pairs is taken
-- Assumes nothing: these are definitions.
use Rattle.std.specs.Prelude.{◌≡◌, true, List, ◌↔◌, ℕ, ◌≤◌, length, take, drop}
use Rattle.theory.specs.Basics.{all}
use Rattle.theory.specs.Lists as Lists
use Rattle.theory.specs.Lists.{Pairs, smaller_first, rising}
use Rattle.pairfile.specs.Promise.{Names, all_once, names_two, Different}
use Rattle.dimacs.specs.Comments.{without_comments}
use Rattle.dimacs.specs.Edges.{read_dimacs, dimacs_file, dimacs_of}
use Rattle.dimacs.specs.Promise.{named, TakenAs}
use Rattle.records.specs.declared.Pair.{Pair}
use Rattle.records.specs.declared.Head.{Head}
use Rattle.records.specs.Records.{held_list}
use Rattle.kandurzo.specs.declared.Changed.{Changed}
use Rattle.on_words.specs.declared.Written.{Written}
use Rattle.on_words.specs.Buffers.{in_front}
use Rattle.on_words.specs.Edits.{head_of}
use Rattle.kandurzo.specs.Reading.{ReadCall}
use Rattle.kandurzo.specs.Writing.{WriteCall}
use Rattle.kandurzo.specs.Promise.{Lent}

-- WRITE_DIMACS WRITES EVERY LIST that is lent with a buffer of 65,536 bytes or more: its file stands in front, and bytes past it stay
unfoldable pub EveryListWritten : Type 0
EveryListWritten =
    (g : Pairs) (h : Head) (ps : List Pair) (text : List ℕ) (w : Written) (text' : List ℕ) → Lent g h ps → 65536 ≤ length text →
    WriteCall h ps text w text' → (w.number ≡ 0) × (w.length ≡ length (dimacs_of g)) × (text' ≡ in_front (dimacs_of g) text)

-- A LIST OF ONES THAT IS WRITTEN AND READ IS THE SAME LIST: the same head and the same held records, whatever list and buffers are lent to the reader. A file
-- has no counts (document 02, item 4), so the round trip is for lists whose pairs count once
unfoldable pub WrittenRead : Type 0
WrittenRead =
    (h : Head) (ps : List Pair) (text : List ℕ) (w : Written) (text' : List ℕ)
    (qs : List Pair) (work : List ℕ) (r : Changed) (qs' : List Pair) (work' : List ℕ) →
    WriteCall h ps text w text' → w.number ≡ 0 → all_once (held_list h ps).pairs ≡ true → h.m ≤ length qs → 16384 ≤ length work →
    ReadCall read_dimacs (take w.length text') qs work r qs' work' →
    (r.number ≡ 0) × (r.head ≡ h) × (take h.m qs' ≡ take h.m ps)

-- AN ACCEPTED FILE WITHOUT COMMENTS, IN LIST ORDER AND WITH THE SMALLER MODULE FIRST, IS REWRITTEN BYTE FOR BYTE
unfoldable pub ReadRewritten : Type 0
ReadRewritten =
    (bytes : List ℕ) (ps : List Pair) (work : List ℕ) (r : Changed) (ps' : List Pair) (work' : List ℕ)
    (text : List ℕ) (w : Written) (text' : List ℕ) →
    ReadCall read_dimacs bytes ps work r ps' work' → r.number ≡ 0 → without_comments bytes ≡ bytes →
    rising (named bytes) ≡ true → all smaller_first (named bytes) ≡ true → 65536 ≤ length text →
    WriteCall r.head ps' text w text' → (w.number ≡ 0) × (w.length ≡ length bytes) × (take w.length text' ≡ bytes)

-- TAKING THE COMMENTS OUT OF A FILE CHANGES NEITHER ITS NUMBER NOR ITS LIST, nor what becomes of any buffer
unfoldable pub CommentsUnread : Type 0
CommentsUnread =
    (bytes : List ℕ) (ps : List Pair) (work : List ℕ) (r : Changed) (ps' : List Pair) (work' : List ℕ) →
    ReadCall read_dimacs bytes ps work r ps' work' ↔ ReadCall read_dimacs (without_comments bytes) ps work r ps' work'

-- THE PAIRS HELD AFTER A FILE IS TAKEN ARE EXACTLY THOSE THAT IT NAMES, LESS 1: its bytes less comments are the file of them; records past it stay
unfoldable pub ReadDimacsExact : Type 0
ReadDimacsExact =
    (bytes : List ℕ) (ps : List Pair) (work : List ℕ) (r : Changed) (ps' : List Pair) (work' : List ℕ) →
    ReadCall read_dimacs bytes ps work r ps' work' → r.number ≡ 0 →
    TakenAs (length ps) bytes (held_list r.head ps') × (drop r.head.m ps' ≡ drop r.head.m ps)

-- EVERY FILE OF DIFFERENT PAIRS IS TAKEN, of 1 to 512 modules and up to 4,096 pairs, where there is room; in whatever order they come and whichever module
-- stands first on a line; the list then holds exactly these pairs, each with the count 1. Comments put in anywhere change nothing (dimacs, CommentAnywhere)
unfoldable pub EveryDimacsRead : Type 0
EveryDimacsRead =
    (n : ℕ) (lines : List Lists.Pair) (ps : List Pair) (work : List ℕ) (r : Changed) (ps' : List Pair) (work' : List ℕ) →
    1 ≤ n → n ≤ 512 → length lines ≤ 4096 → length lines ≤ length ps → 16384 ≤ length work → all (names_two n) lines ≡ true → Different lines →
    ReadCall read_dimacs (dimacs_file n lines) ps work r ps' work' →
    (r.number ≡ 0) × (r.head ≡ head_of n (length lines)) × Names lines (held_list r.head ps').pairs
    × (all_once (held_list r.head ps').pairs ≡ true)
