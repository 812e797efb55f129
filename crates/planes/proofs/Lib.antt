pub mod BitLaws
pub mod Agreement
pub mod Words
pub mod LaidOut
pub mod RowLaws
pub mod MarkLaws
pub mod PutLaws
pub mod CallLaws
